-- Where the stores of a plan go.
use Rattle.std.proofs.Common.{◌≡◌, ℕ, ◌+◌, ◌*◌, ◌-◌, ◌<◌, ◌≤◌, true, false, ◌==◌, ◌⊎◌, List, [], ◌∷◌, ◌++◌, length, take, drop, get_or, Some, None, Option, sym, refl, ap, ◌∙◌, subst, inl, inr, ⊎_elim, append-nil, leb, ltb, length-append, length-take, length-drop, arith}
use Rattle.std.proofs.lemmas.Bool.{cases_lt, cond_both, eqb-false, leb-true, leb-false, ltb-false, or_parts}
use Rattle.keys.specs.InWords.{WordKind, WordOrdered}
use Rattle.refusal.specs.declared.Refusal.TheVariants.{NoRoom}
use Rattle.leaves.specs.declared.leaf.Pair.{Pair}
use Rattle.leaves.specs.Layout.{word, leaf_at, slot_at, count_of}
use Rattle.leaves.specs.Pairs.{lookup}
use Rattle.leaves.specs.Opening.{member}
use Rattle.leaves.specs.Ascent.{all_pairs}
use Rattle.writes.specs.Writes.{Store, LineWrite, Spares, single}
use Rattle.writes.specs.Laws.{change}
use Rattle.writes.proofs.Places.{spares_append}
use Rattle.books.specs.Bounds.{Bounded, locate}
use Rattle.books.specs.Opens.{Opens, UpTo}
use Rattle.books.specs.Questions.{Belongs}
use Rattle.books.proofs.OpensLaws.{opens_from}
use Rattle.appends.specs.Append.{slot_lines, raised, all_applied}
use Rattle.appends.specs.Calls.{put_elements, change_elements, remove_elements}
use Rattle.appends.proofs.AppendWords.{slots_spare}
use Rattle.rewrites.specs.Rewrite.{Filling, Fillings, SomePairs, leaves_lines, link_at, link_commit}
use Rattle.rewrites.proofs.NewWords.{Off, leaves_lines_spare}
use Rattle.plans.specs.declared.deed.Deed.{Deed}
use Rattle.plans.specs.declared.deed.Deed.TheVariants.{Put, Change, Remove}
use Rattle.plans.specs.declared.decision.Decision.{Decision}
use Rattle.plans.specs.declared.decision.Decision.TheVariants.{Split, Merge, Replace}
use Rattle.plans.specs.Deeds.{key_of, call_of}
use Rattle.plans.specs.Told.{Told, Choice, LawfulFor, Lawful}
use Rattle.plans.specs.Plan.{Tree, Site, Plan, site, pairs_of, granted, elements, wish, taken, fillings, refuse, nothing, writes, appending, rewriting, rewritten, next_leaf, written, carried, plan_at, plan_by}
use Rattle.plans.specs.Reach.{InArea, InFreeSlot, OfFreeLeaf, OfLeaf, Reached, ReachesFew, ReachesInArea}
use Rattle.plans.proofs.DecisionLaws.{most_seventeen}
use Rattle.plans.proofs.FreeLaws.{taken_free}
use Rattle.plans.proofs.PlanLaws.{Ready, change_ready, counted, merged_few, put_ready, remove_ready}
use Rattle.plans.proofs.SiteLaws.{place_of, belongs_at, site_place}

-- A plan spares a word.
abbrev Sparing : ℕ → Plan → Type 0
Sparing i (refuse e) = Unit {0}
Sparing i nothing = Unit {0}
Sparing i (writes before commit after) = Spares i (change before commit)

-- Word i is none that may be reached.
module _ (m : List ℕ) (t : Tree) (s : Site) (i : ℕ) (off : Reached m t s i → ⊥) where
  off_slots : (n : ℕ) → count_of m s.leaf + n ≤ 16 → (i < slot_at s.leaf (count_of m s.leaf)) ⊎ (slot_at s.leaf (count_of m s.leaf + n) ≤ i)
  off_slots n room =
      ⊎_elim inl
      (λ over. ⊎_elim (λ lt. absurd (off (inr (inr (inl (over, lt)))))) (λ past. inr (omega (arith, past, room))) (cases_lt i (slot_at s.leaf 16)))
      (cases_lt i (slot_at s.leaf (count_of m s.leaf)))

  off_leaf : (k : ℕ) → 1 ≤ k → k ≤ word m 3 → member k t.leaves ≡ false → Off k i
  off_leaf k least most free =
      ⊎_elim inl
      (λ over. ⊎_elim (λ lt. absurd (off (inr (inr (inr (record { leaf = k; least = least; most = most; free = free; within = (over, lt) })))))) inr (cases_lt i (leaf_at k + 72)))
      (cases_lt i (leaf_at k))

  append_spares : (w : ℕ × ℕ) (xs : List (ℕ × ℕ)) → count_of m s.leaf + length xs ≤ 16 → Sparing i (appending m t s.leaf w xs)
  append_spares w xs room =
      spares_append i (slot_lines s.leaf (count_of m s.leaf) w xs) (single (raised s.leaf (count_of m s.leaf) xs) ∷ [])
      (slots_spare s.leaf w (count_of m s.leaf) xs i (off_slots (length xs) room)) (((λ e. off (inr (inl e))), tt), tt)

  rewrite_spares : (fs : List Filling) (more rest : List ℕ) → Fillings SomePairs fs → Fillings (λ f. Off f.leaf i) fs → Sparing i (rewriting t s fs more rest)
  rewrite_spares fs more rest some offs =
      spares_append i (leaves_lines fs rest) (single (link_commit s.before fs rest) ∷ []) (leaves_lines_spare fs rest i some offs) (((λ e. off (inl e)), tt), tt)

module _ (o : WordKind) (m pre : List ℕ) (k : ℕ) (post : List ℕ) (bs : List (ℕ × ℕ)) (last : Option ℕ) (d : Deed) (spare : length (pre ++ k ∷ post) < word m 3) (i : ℕ) where
  abbrev row : List ℕ
  row = pre ++ k ∷ post

  abbrev t : Tree
  t = record { leaves = row; bounds = bs; last = last }

  abbrev s : Site
  s = record { before = pre; leaf = k; after = post }

  module _ (off : Reached m t s i → ⊥) where
    one_spares : (ps : List Pair) (more rest : List ℕ) → 0 < length ps → length ps ≤ 16 → Sparing i (rewriting t s (record { leaf = taken (word m 3) row last; content = ps } ∷ []) more rest)
    one_spares ps more rest some most =
        let f = taken_free (word m 3) row last spare in
        rewrite_spares m t s i off (record { leaf = taken (word m 3) row last; content = ps } ∷ []) more rest ((some, most), tt) (off_leaf m t s i off (taken (word m 3) row last) f.0 f.1 f.2, tt)

    split_spares : (left : ℕ) (ps : List Pair) (rest : List ℕ) → length row + 2 ≤ word m 3 → 1 ≤ left → left ≤ 16 → left < length ps → length ps ≤ left + 16 → Sparing i (rewriting t s (fillings (Split left) (word m 3) row last ps) [] rest)
    split_spares left ps rest room l1 l16 r1 r16 =
        let one = taken (word m 3) row last in
        let two = taken (word m 3) (one ∷ row) (Some one) in
        let f = taken_free (word m 3) row last spare in
        let g = taken_free (word m 3) (one ∷ row) (Some one) (omega arith) in
        let gone = or_parts (two == one) _ g.2 in
        let lt = length-take left ps in
        let ld = length-drop left ps in
        rewrite_spares m t s i off (fillings (Split left) (word m 3) row last ps) [] rest ((omega arith, omega arith), ((omega arith, omega arith), tt))
        (off_leaf m t s i off one f.0 f.1 f.2, (off_leaf m t s i off two g.0 g.1 gone.1, tt))

    rewritten_spares : (xs : List (ℕ × ℕ)) → Ready o m pre k post d xs → 16 < count_of m k + length xs → (free : ℕ) (by : Decision)
        → LawfulFor (record { call = call_of d; pairs = length (all_applied o (key_of d) xs (pairs_of o m k)); next = next_leaf o m post; free = free }) by
        → Sparing i (rewritten o m t s (all_applied o (key_of d) xs (pairs_of o m k)) by)
    rewritten_spares xs ready full free (Split left) lawful =
        let now = all_applied o (key_of d) xs (pairs_of o m k) in
        let size : length (now ++ []) ≡ length now = ap length (append-nil now) in
        let (may, l1, l16, r1, r16) = lawful in
        cond_both (ltb (word m 3) (length row + 2)) (refuse NoRoom) (rewriting t s (fillings (Split left) (word m 3) row last (now ++ [])) [] post) (Sparing i)
        (λ crowd. tt)
        (λ room. split_spares left (now ++ []) post (ltb-false (word m 3) (length row + 2) room) l1 l16 (omega (arith, size, r1)) (omega (arith, size, r16)))
    rewritten_spares xs ready full free Merge lawful =
        let now = all_applied o (key_of d) xs (pairs_of o m k) in
        let some = ready.some full in
        let both = length-append now (all_pairs o m (take 1 post)) in
        one_spares (now ++ all_pairs o m (take 1 post)) (take 1 post) (drop 1 post) (omega arith) (omega (arith, both, merged_few o m (length now) post lawful))
    rewritten_spares xs ready full free Replace lawful =
        let now = all_applied o (key_of d) xs (pairs_of o m k) in
        let some = ready.some full in
        let both = length-append now [] in
        one_spares (now ++ []) [] post (omega arith) (omega (arith, both, lawful))

    module _ (choose : Choice) (lawful : Lawful choose) where
      written_spares : (xs : List (ℕ × ℕ)) → Ready o m pre k post d xs → Sparing i (written choose o m t s d xs (all_applied o (key_of d) xs (pairs_of o m k)))
      written_spares xs ready =
          let now = all_applied o (key_of d) xs (pairs_of o m k) in
          let told : Told = record { call = call_of d; pairs = length now; next = next_leaf o m post; free = word m 3 - length row } in
          cond_both (leb (count_of m k + length xs) 16) (appending m t k (key_of d) xs) (rewritten o m t s now (choose told)) (Sparing i)
          (λ yes. append_spares m t s i off (key_of d) xs (leb-true (count_of m k + length xs) 16 yes))
          (λ other.
          let full = leb-false (count_of m k + length xs) 16 other in
          rewritten_spares xs ready full told.free (choose told) (lawful told (record { some = ready.some full; most = ready.most; next = counted o m post })))

module _ (choose : Choice) (lawful : Lawful choose) (o : WordKind) (ordered : WordOrdered o) (m pre : List ℕ) (k : ℕ) (post : List ℕ) (bs : List (ℕ × ℕ)) (last : Option ℕ) (bounded : Bounded o m (pre ++ k ∷ post) bs) (i : ℕ) where
  abbrev tree : Tree
  tree = record { leaves = pre ++ k ∷ post; bounds = bs; last = last }

  abbrev spot : Site
  spot = record { before = pre; leaf = k; after = post }

  carried_spares : (d : Deed) → Belongs o m pre k post (key_of d) → o.valid (key_of d) ≡ true → (held : Option ℕ) → lookup (key_of d) (pairs_of o m k) ≡ held → (Reached m tree spot i → ⊥) → Sparing i (carried choose o m tree spot d (wish d held))
  carried_spares (Put w r) b valid (Some v) is off = tt
  carried_spares (Put w r) b valid None is off = written_spares o m pre k post bs last (Put w r) (opens_from o m (pre ++ k ∷ post) b.opens).spare i off choose lawful (put_elements r) (put_ready choose lawful o ordered m pre k post bs last bounded w b valid r is)
  carried_spares (Change w r) b valid None is off = tt
  carried_spares (Change w r) b valid (Some v) is off =
      cond_both (v == r) granted (elements (change_elements v r)) (λ x. Sparing i (carried choose o m tree spot (Change w r) x))
      (λ yes. tt)
      (λ other. written_spares o m pre k post bs last (Change w r) (opens_from o m (pre ++ k ∷ post) b.opens).spare i off choose lawful (change_elements v r) (change_ready choose lawful o ordered m pre k post bs last bounded w b valid v r is (eqb-false v r other)))
  carried_spares (Remove w) b valid None is off = tt
  carried_spares (Remove w) b valid (Some v) is off = written_spares o m pre k post bs last (Remove w) (opens_from o m (pre ++ k ∷ post) b.opens).spare i off choose lawful (remove_elements v) (remove_ready choose lawful o ordered m pre k post bs last bounded w b valid v is)

pub reaches_few_hold : ReachesFew
reaches_few_hold choose lawful o ordered m t d before commit after sound valid is i off =
    let w = key_of d in
    let p = place_of o ordered m t w sound in
    let b = belongs_at o ordered m t w sound in
    let spot : Site = record { before = p.pre; leaf = p.leaf; after = p.post } in
    let free : Reached m (record { leaves = p.pre ++ p.leaf ∷ p.post; bounds = t.bounds; last = t.last }) spot i → ⊥ =
    subst (λ ks. Reached m (record { leaves = ks; bounds = t.bounds; last = t.last }) spot i → ⊥) p.leaves (subst (λ s. Reached m t s i → ⊥) (site_place o ordered m t w sound) off) in
    let main = carried_spares choose lawful o ordered m p.pre p.leaf p.post t.bounds t.last (subst (λ ks. Bounded o m ks t.bounds) p.leaves sound.bounded) i d b valid (lookup w (pairs_of o m p.leaf)) refl free in
    subst (Sparing i) is
    (subst (λ ks. Sparing i (plan_at choose o m (record { leaves = ks; bounds = t.bounds; last = t.last }) (site o t w) d)) (sym p.leaves)
    (subst (λ s. Sparing i (plan_at choose o m (record { leaves = p.pre ++ p.leaf ∷ p.post; bounds = t.bounds; last = t.last }) s d)) (sym (site_place o ordered m t w sound)) main))

-- A linked leaf is one of the n; leaf 0 would begin where leaf 1 does.
linked_in : (n k i : ℕ) → 1 ≤ n → k ≤ n → OfLeaf k i → InArea n i
linked_in n k i some most within =
    ⊎_elim (λ zero. inr (1, omega arith, some, (omega (arith, within.0), omega (arith, within.1, zero)))) (λ one. inr (k, one, most, within)) (cases_lt k 1)

up_to_here : (n : ℕ) (pre : List ℕ) (k : ℕ) (post : List ℕ) → UpTo n (pre ++ k ∷ post) → k ≤ n
up_to_here n [] k post up = up.0
up_to_here n (j ∷ pre) k post up = up_to_here n pre k post up.1

link_in : (n at : ℕ) (pre rest : List ℕ) → 1 ≤ n → UpTo n (pre ++ rest) → InArea n at → InArea n (link_at at pre)
link_in n at [] rest some up here = here
link_in n at (k ∷ pre) rest some up here = link_in n (leaf_at k) pre rest some up.1 (linked_in n k (leaf_at k) some up.0 (omega arith, omega arith))

pub reaches_in_area_hold : ReachesInArea
reaches_in_area_hold o ordered m t w i sound reached =
    let p = place_of o ordered m t w sound in
    let opens = opens_from o m t.leaves sound.opens in
    let some : 1 ≤ word m 3 = omega (arith, opens.least) in
    let up : UpTo (word m 3) (p.pre ++ p.leaf ∷ p.post) = subst (UpTo (word m 3)) p.leaves opens.within in
    let most = up_to_here (word m 3) p.pre p.leaf p.post up in
    ⊎_elim
    (λ link. subst (InArea (word m 3)) (sym link) (link_in (word m 3) 2 p.pre (p.leaf ∷ p.post) some up (inl refl)))
    (λ rest. ⊎_elim
    (λ count. linked_in (word m 3) p.leaf i some most (omega (arith, count), omega (arith, count)))
    (λ more. ⊎_elim (λ slot. linked_in (word m 3) p.leaf i some most (omega (arith, slot.0), omega (arith, slot.1))) (λ free. inr (free.leaf, free.least, free.most, free.within)) more)
    rest)
    (subst (λ s. Reached m t s i) (site_place o ordered m t w sound) reached)
