-- The plan of every call on a sound tree holds, for every lawful choice.
use Rattle.std.proofs.Common.{◌≡◌, ℕ, ◌+◌, ◌*◌, ◌<◌, ◌≤◌, true, false, ◌==◌, ◌≢◌, List, [], ◌∷◌, ◌++◌, length, take, drop, Some, None, Option, sym, refl, ap, ◌∙◌, subst, inl, inr, ⊎_elim, append-nil, take-append-drop, ltb, leb, length-append, length-take, length-drop, arith}
use Rattle.std.proofs.lemmas.Bool.{both_ways, cond-true, cond-false, cond_both, eqb-true, eqb-false, leb-true, leb-false, ltb-true, ltb-false, or_parts, or_from}
use Rattle.std.proofs.lemmas.Option.{none-some}
use Rattle.refusal.specs.declared.Refusal.TheVariants.{NoRoom}
use Rattle.keys.specs.InWords.{WordKind, WordOrdered}
use Rattle.leaves.specs.declared.leaf.Pair.{Pair}
use Rattle.leaves.specs.Layout.{word, count_of}
use Rattle.leaves.specs.Pairs.{lookup}
use Rattle.leaves.specs.Opening.{member}
use Rattle.leaves.specs.Ascent.{Ascending, all_pairs}
use Rattle.leaves.proofs.AscentLaws.{ascending_pairs}
use Rattle.writes.specs.Writes.{Store, LineWrite}
use Rattle.books.specs.Footprint.{book}
use Rattle.books.specs.Opens.{Fine, Opens, lone}
use Rattle.books.specs.Bounds.{Bounded, locate}
use Rattle.books.specs.Questions.{Belongs}
use Rattle.books.proofs.OpensLaws.{opens_from, unlike}
use Rattle.books.proofs.QuestionLaws.{finds_hold}
use Rattle.turns.specs.Turns.{Turns}
use Rattle.appends.specs.Append.{Appendable, slot_lines, raised, all_applied}
use Rattle.appends.specs.Calls.{Fitting, put_elements, change_elements, remove_elements}
use Rattle.appends.proofs.AppendLaws.{appends_hold, append_cost_holds}
use Rattle.appends.proofs.BoundsKept.{append_bounds_hold}
use Rattle.appends.proofs.CallLaws.{calls_fit_hold}
use Rattle.appends.proofs.ParityLaws.{length_insert, length_delete}
use Rattle.rewrites.specs.Rewrite.{Filling, leaf_numbers, contents, leaves_lines, link_commit, Placed, Rewritable}
use Rattle.rewrites.proofs.NewLeaves.{fine_drop}
use Rattle.rewrites.proofs.TakenLaws.{rewritings_hold}
use Rattle.rewrites.proofs.BoundLaws.{rewrite_bounds_hold}
use Rattle.rewrites.proofs.CostLaws.{costs_few}
use Rattle.rewrites.proofs.ParityLaws.{never_empty_holds}
use Rattle.plans.specs.declared.deed.Deed.{Deed}
use Rattle.plans.specs.declared.deed.Deed.TheVariants.{Put, Change, Remove}
use Rattle.plans.specs.declared.decision.Decision.{Decision}
use Rattle.plans.specs.declared.decision.Decision.TheVariants.{Split, Merge, Replace}
use Rattle.plans.specs.Deeds.{key_of, call_of, elements_of, done, Goes}
use Rattle.plans.specs.Told.{Told, Choice, most_pairs, Counted, Mergeable, LawfulFor, Lawful}
use Rattle.plans.specs.Plan.{Tree, Site, site, site_at, pairs_of, granted, elements, wish, taken, fillings, Plan, refuse, nothing, writes, appending, rewriting, rewritten, next_leaf, told_at, written, carried, plan_at, plan_by}
use Rattle.plans.specs.Room.{LacksRoom, fits, told_of}
use Rattle.plans.specs.Laws.{Holds, PlansHold, RemovesGo, CommitsChange}
use Rattle.plans.proofs.DecisionLaws.{is_split, most_seventeen}
use Rattle.plans.proofs.FreeLaws.{taken_free}
use Rattle.plans.proofs.SiteLaws.{place_of, belongs_at, site_is, site_place}
use Rattle.plans.proofs.Lengths.{pairs_most, length_changed}

-- What is asked of a call's elements at its leaf.
pub record Ready (o : WordKind) (m pre : List ℕ) (k : ℕ) (post : List ℕ) (d : Deed) (xs : List (ℕ × ℕ)) : Type 0 where
  pub goes : Goes d (lookup (key_of d) (book o m))
  pub fits : count_of m k + length xs ≤ 16 → Appendable o m pre k post (key_of d) xs
  pub many : length xs ≡ elements_of (call_of d)
  pub pairs : all_applied o (key_of d) xs (pairs_of o m k) ≡ done o d (pairs_of o m k)
  pub does : all_applied o (key_of d) xs (book o m) ≡ done o d (book o m)
  pub some : 16 < count_of m k + length xs → 0 < length (all_applied o (key_of d) xs (pairs_of o m k))
  pub most : length (all_applied o (key_of d) xs (pairs_of o m k)) ≤ most_pairs (call_of d)

module _ (o : WordKind) (m : List ℕ) where
  pub counted : (ks : List ℕ) → Counted (next_leaf o m ks)
  counted [] = tt
  counted (k ∷ ks) = pairs_most o m k (count_of m k)

  -- A merge that may be takes at most 16 pairs.
  pub merged_few : (n : ℕ) (ks : List ℕ) → Mergeable n (next_leaf o m ks) → n + length (all_pairs o m (take 1 ks)) ≤ 16
  merged_few n [] h = absurd h
  merged_few n (k ∷ ks) h = omega (arith, h, length-append (pairs_of o m k) [])

module _ (choose : Choice) (o : WordKind) (ordered : WordOrdered o) (m pre : List ℕ) (k : ℕ) (post : List ℕ) (bs : List (ℕ × ℕ)) (last : Option ℕ) (d : Deed)
    (belongs : Belongs o m pre k post (key_of d)) (bounded : Bounded o m (pre ++ k ∷ post) bs) (valid : o.valid (key_of d) ≡ true) (place : length pre ≡ locate o (key_of d) bs) where
  abbrev w : ℕ × ℕ
  w = key_of d

  abbrev row : List ℕ
  row = pre ++ k ∷ post

  abbrev t : Tree
  t = record { leaves = row; bounds = bs; last = last }

  abbrev s : Site
  s = record { before = pre; leaf = k; after = post }

  opened : Opens o m row
  opened = opens_from o m row belongs.opens

  -- The site of the key, what its choice is told, and whether its elements fit.
  site_here : site o t w ≡ s
  site_here = ap (λ i. site_at i row) (sym place) ∙ site_is pre k post

  module _ (xs : List (ℕ × ℕ)) (ready : Ready o m pre k post d xs) where
    told_is : told_of o m t d ≡ told_at o m t s (call_of d) (length (all_applied o w xs (pairs_of o m k)))
    told_is =
        ap (λ (x : Site). told_at o m t x (call_of d) (length (done o d (pairs_of o m x.leaf)))) site_here
        ∙ ap (λ (ps : List Pair). told_at o m t s (call_of d) (length ps)) (sym ready.pairs)

    fits_is : fits o m t d ≡ leb (count_of m k + length xs) 16
    fits_is = ap (λ (x : Site). leb (count_of m x.leaf + elements_of (call_of d)) 16) site_here ∙ ap (λ (n : ℕ). leb (count_of m k + n) 16) (sym ready.many)

    -- A leaf without room for the elements.
    abbrev Unfit : Type 0
    Unfit = leb (count_of m k + length xs) 16 ≡ false

  -- New leaves for leaf k and the first n after it.
  module _ (n : ℕ) (xs : List (ℕ × ℕ)) (ready : Ready o m pre k post d xs) (unfit : Unfit xs ready) (roomy : LacksRoom choose o m t d → ⊥) where
    abbrev more : List ℕ
    more = take n post

    abbrev rest : List ℕ
    rest = drop n post

    abbrev all : List Pair
    all = all_applied o w xs (pairs_of o m k) ++ all_pairs o m more

    same : (k ∷ more) ++ rest ≡ k ∷ post
    same = ap (λ ks. k ∷ ks) (take-append-drop n post)

    -- A rewrite that is right fulfils the call.
    rewrite_holds : (fs : List Filling) → contents fs ≡ all → Placed m pre (k ∷ more) rest fs → length fs ≤ 2 → length all ≤ 17 → Holds choose o m t d (rewriting t s fs more rest)
    rewrite_holds fs is placed two few =
        let r : Rewritable o m pre k more rest w xs fs = record {
          belongs = subst (λ ks. Belongs o m pre k ks w) (sym (take-append-drop n post)) belongs;
          valid = valid;
          taken = is;
          placed = placed;
        } in
        let turn = subst (λ ps. Turns o m (leaves_lines fs rest) (link_commit pre fs rest) (pre ++ (leaf_numbers fs ++ rest)) ps) ready.does (rewritings_hold o ordered m pre k more rest w xs fs r) in (
          ready.goes,
          roomy,
          record {
            turns = turn;
            sound = record {
              opens = turn.done.0;
              bounded = rewrite_bounds_hold o ordered m pre k more rest w xs fs bs r place (subst (λ ks. Bounded o m (pre ++ ks) bs) (sym same) bounded);
            };
            spare = placed.spare;
            few = omega (arith, costs_few.most pre fs rest two (omega (arith, few, ap length is)), cond-false (fits o m t d) (5 * elements_of (call_of d) + 2) 87 (fits_is xs ready ∙ unfit));
          },
        )

    not_used : (j : ℕ) → member j row ≡ false → member j (pre ++ ((k ∷ more) ++ rest)) ≡ false
    not_used j h = ap (λ ks. member j (pre ++ ks)) same ∙ h

    -- One new leaf.
    one_holds : 0 < length all → length all ≤ 16 → Holds choose o m t d (rewriting t s (record { leaf = taken (word m 3) row last; content = all } ∷ []) more rest)
    one_holds some most =
        let spare = opened.spare in
        let f = taken_free (word m 3) row last spare in
        let a = length-append pre (k ∷ post) in
        let b = length-append pre (taken (word m 3) row last ∷ rest) in
        let c = ap length (take-append-drop n post) ∙ refl in
        let e = length-append more rest in
        rewrite_holds (record { leaf = taken (word m 3) row last; content = all } ∷ []) (append-nil all) (record {
          some = omega arith;
          filled = ((some, most), tt);
          spare = omega arith;
          within = ((f.0, f.1), tt);
          free = (not_used (taken (word m 3) row last) f.2, tt);
          distinct = (refl, tt);
        }) (omega arith) (omega arith)

  -- Two new leaves.
  split_holds : (left : ℕ) (xs : List (ℕ × ℕ)) (ready : Ready o m pre k post d xs) → Unfit xs ready → length row + 2 ≤ word m 3 → LawfulFor (record { call = call_of d; pairs = length (all_applied o w xs (pairs_of o m k)); next = None; free = 0 }) (Split left) →
      length (all_applied o w xs (pairs_of o m k)) ≤ 17 →
      Holds choose o m t d (rewriting t s (fillings (Split left) (word m 3) row last (all_applied o w xs (pairs_of o m k) ++ [])) [] post)
  split_holds left xs ready unfit room lawful most =
      let one = taken (word m 3) row last in
      let two = taken (word m 3) (one ∷ row) (Some one) in
      let f = taken_free (word m 3) row last (omega arith) in
      let g = taken_free (word m 3) (one ∷ row) (Some one) (omega arith) in
      let gone = or_parts (two == one) _ g.2 in
      let ps = all_applied o w xs (pairs_of o m k) ++ [] in
      let size : length ps ≡ length (all_applied o w xs (pairs_of o m k)) = ap length (append-nil (all_applied o w xs (pairs_of o m k))) in
      let a = length-append pre (k ∷ post) in
      let b = length-append pre (one ∷ two ∷ post) in
      let lt = length-take left ps in
      let ld = length-drop left ps in
      let (may, l1, l16, r1, r16) = lawful in
      rewrite_holds 0 xs ready unfit (λ lacks. absurd (omega (arith, lacks.few, room))) (fillings (Split left) (word m 3) row last ps) (ap (λ qs. take left ps ++ qs) (append-nil (drop left ps)) ∙ take-append-drop left ps) (record {
        some = omega arith;
        filled = ((omega arith, omega arith), ((omega arith, omega arith), tt));
        spare = omega arith;
        within = ((f.0, f.1), ((g.0, g.1), tt));
        free = (f.2, (gone.1, tt));
        distinct = (or_from (one == two) false (unlike two one gone.0) refl, (refl, tt));
      }) (omega arith) (omega arith)

  -- A rewrite by a lawful choice.
  abbrev told : List (ℕ × ℕ) → Told
  told xs = told_at o m t s (call_of d) (length (all_applied o w xs (pairs_of o m k)))

  -- Where the choice is no split, there is room.
  unsplit_room : (xs : List (ℕ × ℕ)) → Ready o m pre k post d xs → (by : Decision) → choose (told xs) ≡ by → is_split by ≡ false → LacksRoom choose o m t d → ⊥
  unsplit_room xs ready by is other lacks =
      let (left, split) = lacks.splits in
      both_ways _ (ap is_split (sym split ∙ (ap choose (told_is xs ready) ∙ is)) ∙ other) refl

  rewritten_holds : (xs : List (ℕ × ℕ)) (ready : Ready o m pre k post d xs) → Unfit xs ready → (by : Decision) → choose (told xs) ≡ by → LawfulFor (told xs) by →
      Holds choose o m t d (rewritten o m t s (all_applied o w xs (pairs_of o m k)) by)
  rewritten_holds xs ready unfit (Split left) is lawful =
      let now = all_applied o w xs (pairs_of o m k) in
      cond_both (ltb (word m 3) (length row + 2)) (refuse NoRoom) (rewriting t s (fillings (Split left) (word m 3) row last (now ++ [])) [] post) (Holds choose o m t d)
      (λ crowd.
      let lacks : LacksRoom choose o m t d = record {
        full = fits_is xs ready ∙ unfit;
        splits = (left, ap choose (told_is xs ready) ∙ is);
        few = ltb-true (word m 3) (length row + 2) crowd;
      } in
      inr (refl, ready.goes, lacks, lawful.0))
      (λ room. split_holds left xs ready unfit (ltb-false (word m 3) (length row + 2) room) lawful (most_seventeen (call_of d) (length now) ready.most))
  rewritten_holds xs ready unfit Merge is lawful =
      let now = all_applied o w xs (pairs_of o m k) in
      let some = ready.some (leb-false (count_of m k + length xs) 16 unfit) in
      let both = length-append now (all_pairs o m (take 1 post)) in
      one_holds 1 xs ready unfit (unsplit_room xs ready Merge is refl) (omega arith) (omega (arith, both, merged_few o m (length now) post lawful))
  rewritten_holds xs ready unfit Replace is lawful =
      let now = all_applied o w xs (pairs_of o m k) in
      let some = ready.some (leb-false (count_of m k + length xs) 16 unfit) in
      let both = length-append now [] in
      one_holds 0 xs ready unfit (unsplit_room xs ready Replace is refl) (omega arith) (omega (arith, both, lawful))

  written_holds : Lawful choose → (xs : List (ℕ × ℕ)) → Ready o m pre k post d xs → Holds choose o m t d (written choose o m t s d xs (all_applied o w xs (pairs_of o m k)))
  written_holds lawful xs ready =
      let now = all_applied o w xs (pairs_of o m k) in
      cond_both (leb (count_of m k + length xs) 16) (appending m t k w xs) (rewritten o m t s now (choose (told xs))) (Holds choose o m t d)
      (λ yes.
      let fit = ready.fits (leb-true (count_of m k + length xs) 16 yes) in
      let turn = subst (λ ps. Turns o m (slot_lines k (count_of m k) w xs) (raised k (count_of m k) xs) row ps) ready.does (appends_hold o ordered m pre k post w xs fit) in (
        ready.goes,
        λ lacks. both_ways _ lacks.full (fits_is xs ready ∙ yes),
        record {
          turns = turn;
          sound = record { opens = turn.done.0; bounded = append_bounds_hold o ordered m pre k post w xs bs fit place bounded };
          spare = opened.spare;
          few = omega (arith, append_cost_holds k (count_of m k) w xs, ready.many, cond-true (fits o m t d) (5 * elements_of (call_of d) + 2) 87 (fits_is xs ready ∙ yes));
        },
      ))
      (λ unfit.
      let full = leb-false (count_of m k + length xs) 16 unfit in
      rewritten_holds xs ready unfit (choose (told xs)) refl (lawful (told xs) (record { some = ready.some full; most = ready.most; next = counted o m post })))

-- The elements of each call are ready at the leaf of its key, and its plan holds.
module _ (choose : Choice) (lawful : Lawful choose) (o : WordKind) (ordered : WordOrdered o) (m pre : List ℕ) (k : ℕ) (post : List ℕ) (bs : List (ℕ × ℕ)) (last : Option ℕ) (bounded : Bounded o m (pre ++ k ∷ post) bs) where
  module _ (w : ℕ × ℕ) (belongs : Belongs o m pre k post w) (valid : o.valid w ≡ true) where
    abbrev here : List Pair
    here = pairs_of o m k

    fine : (bound : Option (ℕ × ℕ)) × Fine o m (lone (pre ++ k ∷ post)) bound k
    fine = let (bound, h) = fine_drop o m _ None pre (k ∷ post) (opens_from o m (pre ++ k ∷ post) belongs.opens).fine in (bound, h.0)

    up : Ascending o here
    up = ascending_pairs o ordered m k (count_of m k)

    few : length here ≤ 16
    few = omega (arith, fine.1.few, pairs_most o m k (count_of m k))

    fit : Fitting o m pre k post w
    fit = calls_fit_hold o ordered m pre k post w valid belongs

    found : lookup w (book o m) ≡ lookup w here
    found = finds_hold o ordered m pre k post w belongs

    pub put_ready : (r : ℕ) → lookup w here ≡ None → Ready o m pre k post (Put w r) (put_elements r)
    put_ready r is =
        let more = length_insert o ordered (record { key = w; reading = r }) here is in
        record {
          goes = found ∙ is;
          fits = λ room. fit.put r (found ∙ is) room;
          many = refl;
          pairs = refl;
          does = refl;
          some = λ _. omega (arith, more);
          most = omega (arith, more, few);
        }

    pub change_ready : (v r : ℕ) → lookup w here ≡ Some v → v ≢ r → Ready o m pre k post (Change w r) (change_elements v r)
    change_ready v r is other =
        let as_many = length_changed o ordered w v r here up is in
        let one = length_delete o ordered w v here up is in
        record {
          goes = (v, found ∙ is, other);
          fits = λ room. fit.change v r (found ∙ is) room;
          many = refl;
          pairs = refl;
          does = refl;
          some = λ _. omega (arith, as_many, one);
          most = omega (arith, as_many, few);
        }

    pub remove_ready : (v : ℕ) → lookup w here ≡ Some v → Ready o m pre k post (Remove w) (remove_elements v)
    remove_ready v is =
        let less = length_delete o ordered w v here up is in
        record {
          goes = (v, found ∙ is);
          fits = λ room. fit.remove v (found ∙ is) room;
          many = refl;
          pairs = refl;
          does = refl;
          some = λ full. never_empty_holds o ordered m _ fine.0 k w v fine.1 (omega (arith, full, fine.1.few)) is;
          most = omega (arith, less, few);
        }

  abbrev tree : Tree
  tree = record { leaves = pre ++ k ∷ post; bounds = bs; last = last }

  abbrev spot : Site
  spot = record { before = pre; leaf = k; after = post }

  carried_holds : (d : Deed) → Belongs o m pre k post (key_of d) → o.valid (key_of d) ≡ true → length pre ≡ locate o (key_of d) bs → (held : Option ℕ) → lookup (key_of d) (pairs_of o m k) ≡ held → Holds choose o m tree d (carried choose o m tree spot d (wish d held))
  carried_holds (Put w r) b valid place (Some v) is = inl (refl, (v, found w b valid ∙ is))
  carried_holds (Put w r) b valid place None is = written_holds choose o ordered m pre k post bs last (Put w r) b bounded valid place lawful (put_elements r) (put_ready w b valid r is)
  carried_holds (Change w r) b valid place None is = inl (refl, found w b valid ∙ is)
  carried_holds (Change w r) b valid place (Some v) is =
      cond_both (v == r) granted (elements (change_elements v r)) (λ x. Holds choose o m tree (Change w r) (carried choose o m tree spot (Change w r) x))
      (λ yes. found w b valid ∙ is ∙ ap Some (eqb-true v r yes))
      (λ other. written_holds choose o ordered m pre k post bs last (Change w r) b bounded valid place lawful (change_elements v r) (change_ready w b valid v r is (eqb-false v r other)))
  carried_holds (Remove w) b valid place None is = inl (refl, found w b valid ∙ is)
  carried_holds (Remove w) b valid place (Some v) is = written_holds choose o ordered m pre k post bs last (Remove w) b bounded valid place lawful (remove_elements v) (remove_ready w b valid v is)

pub plans_hold : PlansHold
plans_hold choose lawful o ordered m t d sound valid =
    let w = key_of d in
    let p = place_of o ordered m t w sound in
    let b = belongs_at o ordered m t w sound in
    let main = carried_holds choose lawful o ordered m p.pre p.leaf p.post t.bounds t.last (subst (λ ks. Bounded o m ks t.bounds) p.leaves sound.bounded) d b valid p.place (lookup w (pairs_of o m p.leaf)) refl in
    subst (λ ks. Holds choose o m (record { leaves = ks; bounds = t.bounds; last = t.last }) d (plan_at choose o m (record { leaves = ks; bounds = t.bounds; last = t.last }) (site o t w) d)) (sym p.leaves)
    (subst (λ s. Holds choose o m (record { leaves = p.pre ++ p.leaf ∷ p.post; bounds = t.bounds; last = t.last }) d (plan_at choose o m (record { leaves = p.pre ++ p.leaf ∷ p.post; bounds = t.bounds; last = t.last }) s d)) (sym (site_place o ordered m t w sound)) main)

module _ (choose : Choice) (o : WordKind) (m : List ℕ) (t : Tree) where
  remove_writes : (w : ℕ × ℕ) (old : ℕ) → lookup w (book o m) ≡ Some old → (p : Plan) → Holds choose o m t (Remove w) p → (before : List LineWrite) × (commit : Store) × (after : Tree) × (p ≡ writes before commit after)
  remove_writes w old is (refuse e) h = ⊎_elim (λ own. absurd (none-some old (sym own.1 ∙ is))) (λ room. absurd (both_ways _ refl room.3)) h
  remove_writes w old is nothing h = absurd h
  remove_writes w old is (writes before commit after) h = (before, commit, after, refl)

pub removes_go_hold : RemovesGo
removes_go_hold choose lawful o ordered m t w old sound valid is = remove_writes choose o m t w old is (plan_by choose o m t (Remove w)) (plans_hold choose lawful o ordered m t (Remove w) sound valid)

pub commits_change_hold : CommitsChange
commits_change_hold choose lawful o ordered m t d before commit after sound valid is new =
    (subst (Holds choose o m t d) is (plans_hold choose lawful o ordered m t d sound valid)).2.turns.differs new
