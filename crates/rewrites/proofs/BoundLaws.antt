-- A rewrite at the located leaf keeps bounds that part the keys.
use Rattle.std.proofs.Common.{◌≡◌, ℕ, suc, ◌+◌, ◌<◌, true, false, List, [], ◌∷◌, ◌++◌, length, drop, None, ◌∙◌, ⊎_elim, arith}
use Rattle.std.proofs.lemmas.Bool.{cases_Bool, cond-true, both_ways}
use Rattle.keys.specs.InWords.{WordKind, WordOrdered}
use Rattle.leaves.specs.declared.leaf.Pair.{Pair}
use Rattle.leaves.specs.Layout.{element, count_of}
use Rattle.leaves.specs.Ascent.{Each, Ascending}
use Rattle.leaves.proofs.BookLaws.{between}
use Rattle.books.specs.Opens.{AllFine, lone}
use Rattle.books.specs.Bounds.{Keys, AtMost, Bounded, locate}
use Rattle.rewrites.specs.Rewrite.{Filling, leaf_numbers, contents}
use Rattle.rewrites.specs.Bounds.{last_key, inner_bounds, bounds_after, RewriteBounds}
use Rattle.books.proofs.FootprintLaws.{KeptLeaves}
use Rattle.books.proofs.QuestionLaws.{not_back}
use Rattle.books.proofs.BoundLaws.{Busy, all_busy, locate_more}
use Rattle.appends.proofs.BoundsKept.{keys_kept, bounded_kept}
use Rattle.rewrites.proofs.NewLeaves.{Filled, AllFilled, Fresh, others, fine_drop, key_written}
use Rattle.rewrites.proofs.KeyLists.{each_left, each_right, ascending_left, ascending_cross, keys_left, keys_right, keys_append}
use Rattle.rewrites.proofs.RewriteLaws as laws
use Rattle.rewrites.proofs.TakenLaws.{replaces, each_taken}

-- No key after the first of the bounds, if there is one.
abbrev Low : WordKind → List (ℕ × ℕ) → ℕ × ℕ → Type 0
Low o [] x = Unit {0}
Low o (c ∷ cs) x = o.before c x ≡ false

-- The last bounds part the leaves after.
abbrev Tail : WordKind → List ℕ → List ℕ → List (ℕ × ℕ) → Type 0
Tail o m [] [] = Unit {0}
Tail o m [] (d ∷ ds) = ⊥
Tail o m (p ∷ post) [] = ⊥
Tail o m (p ∷ post) (d ∷ ds) = Keys (λ x. o.before d x ≡ true) m (p ∷ post) × Bounded o m (p ∷ post) ds

module _ (o : WordKind) (ordered : WordOrdered o) where
  bounded_cons : (m : List ℕ) (j : ℕ) (xs : List ℕ) (c : ℕ × ℕ) (ds : List (ℕ × ℕ)) → AtMost o m c j → Keys (λ x. o.before c x ≡ true) m xs → Bounded o m xs ds → Bounded o m (j ∷ xs) (c ∷ ds)
  bounded_cons m j [] c ds most keys h = absurd h
  bounded_cons m j (x ∷ xs) c ds most keys h = (most, keys, h)

  bounded_none : (m : List ℕ) (j : ℕ) (xs : List ℕ) (k : ℕ) (ys : List ℕ) → Bounded o m (j ∷ (xs ++ (k ∷ ys))) [] → ⊥
  bounded_none m j [] k ys h = h
  bounded_none m j (x ∷ xs) k ys h = h

  bounded_parts : (m : List ℕ) (j : ℕ) (xs : List ℕ) (k : ℕ) (ys : List ℕ) (c : ℕ × ℕ) (cs : List (ℕ × ℕ)) → Bounded o m (j ∷ (xs ++ (k ∷ ys))) (c ∷ cs) → AtMost o m c j × Keys (λ x. o.before c x ≡ true) m (xs ++ (k ∷ ys)) × Bounded o m (xs ++ (k ∷ ys)) cs
  bounded_parts m j [] k ys c cs h = h
  bounded_parts m j (x ∷ xs) k ys c cs h = h

  -- What is not after a leaf's bound is not after the next leaf's.
  low_next : (m : List ℕ) (c : ℕ × ℕ) (l : ℕ) (ks : List ℕ) (cs : List (ℕ × ℕ)) (x : ℕ × ℕ) → 0 < count_of m l → o.before c (element m l 0).key ≡ true → Bounded o m (l ∷ ks) cs → o.before c x ≡ false → Low o cs x
  low_next m c l ks [] x some past h low = tt
  low_next m c l [] (e ∷ cs) x some past h low = absurd h
  low_next m c l (n ∷ ks) (e ∷ cs) x some past h low =
      ⊎_elim (λ t. absurd (both_ways _ low (ordered.transitive c (element m l 0).key x past (between o ordered m e (element m l 0).key x (h.0 0 some) t)))) (λ f. f) (cases_Bool (o.before e x))

  low_far : (m : List ℕ) (k : ℕ) (more post : List ℕ) (bs : List (ℕ × ℕ)) (x : ℕ × ℕ) → Busy m more → Bounded o m (k ∷ (more ++ post)) bs → Low o bs x → Low o (drop (length more) bs) x
  low_far m k [] post bs x busy h low = low
  low_far m k (l ∷ more) post [] x busy h low = tt
  low_far m k (l ∷ more) post (c ∷ cs) x busy h low = low_far m l more post cs x busy.1 h.2 (low_next m c l (more ++ post) cs x busy.0 (h.1.0 0 busy.0) h.2 low)

  tail_of : (m : List ℕ) (k : ℕ) (more post : List ℕ) (bs : List (ℕ × ℕ)) → Bounded o m (k ∷ (more ++ post)) bs → Tail o m post (drop (length more) bs)
  tail_of m k [] [] [] h = tt
  tail_of m k [] [] (c ∷ cs) h = h
  tail_of m k [] (p ∷ post) [] h = h
  tail_of m k [] (p ∷ post) (c ∷ cs) h = (h.1, h.2)
  tail_of m k (l ∷ more) post [] h = absurd h
  tail_of m k (l ∷ more) post (c ∷ cs) h = tail_of m l more post cs h.2

  low_leaf : (m : List ℕ) (k : ℕ) (ks : List ℕ) (bs : List (ℕ × ℕ)) → Bounded o m (k ∷ ks) bs → (s : ℕ) → s < count_of m k → Low o bs (element m k s).key
  low_leaf m k ks [] h s l = tt
  low_leaf m k [] (c ∷ cs) h s l = absurd h
  low_leaf m k (j ∷ ks) (c ∷ cs) h s l = h.0 s l

  low_keys : (m : List ℕ) (k : ℕ) (more post : List ℕ) (bs : List (ℕ × ℕ)) → Busy m more → Bounded o m (k ∷ (more ++ post)) bs → Keys (Low o (drop (length more) bs)) m (k ∷ more)
  low_keys m k [] post bs busy h = (low_leaf m k post bs h, tt)
  low_keys m k (l ∷ more) post [] busy h = absurd h
  low_keys m k (l ∷ more) post (c ∷ cs) busy h =
      (λ s lt. low_far m k (l ∷ more) post (c ∷ cs) (element m k s).key busy h (h.0 s lt), low_keys m l more post cs busy.1 h.2)

  last_in : (P : ℕ × ℕ → Type 0) (ps : List Pair) → 0 < length ps → Each P ps → P (last_key ps)
  last_in P [] l h = absurd (omega arith)
  last_in P (p ∷ []) l h = h.0
  last_in P (p ∷ q ∷ ps) l h = last_in P (q ∷ ps) (omega arith) h.1

  pub last_most : (ps : List Pair) → Ascending o ps → Each (λ x. o.before (last_key ps) x ≡ false) ps
  last_most [] h = tt
  last_most (p ∷ []) h = (ordered.irreflexive p.key, tt)
  last_most (p ∷ q ∷ ps) h = (not_back o ordered p.key (last_key (q ∷ ps)) (last_in _ (q ∷ ps) (omega arith) h.0), last_most (q ∷ ps) h.1)

  module _ (a b post : List ℕ) (kept_post : KeptLeaves a b post) where
    filled_keys : (P : ℕ × ℕ → Type 0) (next : ℕ) (f : Filling) → Filled a next f → Each P f.content → (s : ℕ) → s < count_of a f.leaf → P (element a f.leaf s).key
    filled_keys P next f filled h s l = let c = filled.count in key_written o ordered a f.leaf P 0 f.content filled.written h s (omega arith) (omega arith)

    numbers_keys : (P : ℕ × ℕ → Type 0) (fs : List Filling) → AllFilled a post fs → Each P (contents fs) → Keys P a (leaf_numbers fs)
    numbers_keys P [] filled h = tt
    numbers_keys P (f ∷ fs) filled h = (filled_keys P _ f filled.0 (each_left P f.content (contents fs) h), numbers_keys P fs filled.1 (each_right P f.content (contents fs) h))

    last_bounded : (j : ℕ) (ps : List ℕ) (es : List (ℕ × ℕ)) → ((s : ℕ) → s < count_of a j → Low o es (element a j s).key) → Tail o a ps es → Bounded o a (j ∷ ps) es
    last_bounded j [] [] g t = tt
    last_bounded j [] (e ∷ es) g t = t
    last_bounded j (p ∷ ps) [] g t = t
    last_bounded j (p ∷ ps) (e ∷ es) g t = (g, t.0, t.1)

    tail_kept : (ps : List ℕ) (ds : List (ℕ × ℕ)) → KeptLeaves a b ps → Tail o b ps ds → Tail o a ps ds
    tail_kept [] [] kept h = tt
    tail_kept [] (d ∷ ds) kept h = h
    tail_kept (p ∷ ps) [] kept h = h
    tail_kept (p ∷ ps) (d ∷ ds) kept h = (keys_kept o ordered a b (λ x. o.before d x ≡ true) (p ∷ ps) kept h.0, bounded_kept o ordered a b (p ∷ ps) ds kept h.1)

    new_bounded : (f : Filling) (fs : List Filling) (ds : List (ℕ × ℕ)) → Fresh o a b post (f ∷ fs) → Each (Low o ds) (contents (f ∷ fs)) → Tail o a post ds → Bounded o a (f.leaf ∷ (leaf_numbers fs ++ post)) (inner_bounds (f ∷ fs) ++ ds)
    new_bounded f [] ds new low rest = last_bounded f.leaf post ds (filled_keys (Low o ds) _ f new.filled.0 (each_left _ f.content [] low)) rest
    new_bounded f (g ∷ fs) ds new low rest =
        let here = f.content in
        let more = contents (g ∷ fs) in
        let key = last_key f.content in
        let some = new.sizes.0.0 in
        let cross = last_in (λ x. Each (λ y. o.before x y ≡ true) more) here some (ascending_cross o here more new.up) in
        let later = last_in (λ x. Keys (λ y. o.before x y ≡ true) b post) here some (each_left _ here more new.below) in
        bounded_cons a f.leaf (g.leaf ∷ (leaf_numbers fs ++ post)) key (inner_bounds (g ∷ fs) ++ ds)
        (filled_keys (λ x. o.before key x ≡ false) _ f new.filled.0 (last_most here (ascending_left o here more new.up)))
        (keys_append (λ x. o.before key x ≡ true) a (leaf_numbers (g ∷ fs)) post (numbers_keys (λ x. o.before key x ≡ true) (g ∷ fs) new.filled.1 cross) (keys_kept o ordered a b (λ x. o.before key x ≡ true) post kept_post later))
        (new_bounded g fs ds (others o ordered a b post f (g ∷ fs) new) (each_right _ here more low) rest)

  locate_low : (w : ℕ × ℕ) (bs : List (ℕ × ℕ)) → 0 ≡ locate o w bs → Low o bs w
  locate_low w [] e = tt
  locate_low w (c ∷ cs) e = ⊎_elim (λ t. absurd (let z = e ∙ cond-true (o.before c w) (suc (locate o w cs)) 0 t in omega arith)) (λ f. f) (cases_Bool (o.before c w))

  -- The new leaves take the keys of leaf k and of the leaves that merge with it, and perhaps w.
  module _ (a b : List ℕ) (k : ℕ) (more post : List ℕ) (w : ℕ × ℕ) (f : Filling) (fs : List Filling) (taken : (P : ℕ × ℕ → Type 0) → P w → Keys P b (k ∷ more) → Each P (contents (f ∷ fs)))
      (busy : Busy b more) (kept_post : KeptLeaves a b post) (new : Fresh o a b post (f ∷ fs)) where
    -- Where all keys of the old leaves are after a bound, all of the new ones are.
    all_after : (c : ℕ × ℕ) (pre : List ℕ) → KeptLeaves a b pre → o.before c w ≡ true → Keys (λ x. o.before c x ≡ true) b (pre ++ ((k ∷ more) ++ post)) → Keys (λ x. o.before c x ≡ true) a (pre ++ (leaf_numbers (f ∷ fs) ++ post))
    all_after c pre kept past keys =
        let P : ℕ × ℕ → Type 0 = λ x. o.before c x ≡ true in
        let rest = keys_right b P pre ((k ∷ more) ++ post) keys in
        let before = keys_kept o ordered a b P pre kept (keys_left b P pre ((k ∷ more) ++ post) keys) in
        let here = numbers_keys a b post kept_post P (f ∷ fs) new.filled (taken P past (keys_left b P (k ∷ more) post rest)) in
        let after = keys_kept o ordered a b P post kept_post (keys_right b P (k ∷ more) post rest) in
        keys_append P a pre (leaf_numbers (f ∷ fs) ++ post) before (keys_append P a (leaf_numbers (f ∷ fs)) post here after)

    pub rewritten_bounded : (pre : List ℕ) (bs : List (ℕ × ℕ)) → KeptLeaves a b pre → length pre ≡ locate o w bs → Bounded o b (pre ++ ((k ∷ more) ++ post)) bs
        → Bounded o a (pre ++ (leaf_numbers (f ∷ fs) ++ post)) (bounds_after (length pre) (length more) (f ∷ fs) bs)
    rewritten_bounded [] bs kept at h =
        let e : 0 + length more ≡ length more = omega arith in
        let ds = drop (length more) bs in
        let low = taken (Low o ds) (low_far b k more post bs w busy h (locate_low w bs at)) (low_keys b k more post bs busy h) in
        rw e (new_bounded a b post kept_post f fs ds new low (tail_kept a b post kept_post post ds kept_post (tail_of b k more post bs h)))
    rewritten_bounded (j ∷ pre) [] kept at h = absurd (bounded_none b j pre k (more ++ post) h)
    rewritten_bounded (j ∷ pre) (c ∷ cs) kept at h =
        let e : suc (length pre) + length more ≡ suc (length pre + length more) = omega arith in
        let (past, here) = locate_more o ordered w c cs (length pre) at in
        let (most, keys, rest) = bounded_parts b j pre k (more ++ post) c cs h in
        rw e (bounded_cons a j (pre ++ (leaf_numbers (f ∷ fs) ++ post)) c _
        (keys_kept o ordered a b (λ x. o.before c x ≡ false) (j ∷ []) (kept.0, tt) (most, tt)).0 (all_after c pre kept.1 past keys) (rewritten_bounded pre cs kept.1 here rest))

busy_left : (m xs ys : List ℕ) → Busy m (xs ++ ys) → Busy m xs
busy_left m [] ys h = tt
busy_left m (x ∷ xs) ys h = (h.0, busy_left m xs ys h.1)

busy_row : (o : WordKind) (m pre : List ℕ) (k : ℕ) (more post : List ℕ) → AllFine o m false None (pre ++ ((k ∷ more) ++ post)) → Busy m more
busy_row o m pre k more post h = let (x, rest) = fine_drop o m false None pre ((k ∷ more) ++ post) h in busy_left m more post (all_busy o m x ((k ∷ more) ++ post) rest).1

-- Leaves that merge are not alone.
busy_more : (o : WordKind) (m pre : List ℕ) (k : ℕ) (more post : List ℕ) → AllFine o m (lone (pre ++ ((k ∷ more) ++ post))) None (pre ++ ((k ∷ more) ++ post)) → Busy m more
busy_more o m pre k [] post h = tt
busy_more o m [] k (l ∷ more) post h = busy_row o m [] k (l ∷ more) post h
busy_more o m (x ∷ []) k (l ∷ more) post h = busy_row o m (x ∷ []) k (l ∷ more) post h
busy_more o m (x ∷ y ∷ pre) k (l ∷ more) post h = busy_row o m (x ∷ y ∷ pre) k (l ∷ more) post h

pub rewrite_bounds_hold : RewriteBounds
rewrite_bounds_hold o ordered m pre k more post w xs [] bs r at h = let some = r.placed.some in absurd (omega arith)
rewrite_bounds_hold o ordered m pre k more post w xs (f ∷ fs) bs r at h =
    let p = replaces o ordered m pre k more post w xs (f ∷ fs) r in
    let taken = each_taken o ordered m pre k more post w xs (f ∷ fs) r in
    let busy = busy_more o m pre k more post (laws.opens o ordered m pre (k ∷ more) post (f ∷ fs) p).fine in
    let post_kept = laws.post_kept o ordered m pre (k ∷ more) post (f ∷ fs) p in
    let pre_kept = laws.pre_kept o ordered m pre (k ∷ more) post (f ∷ fs) p in
    rewritten_bounded o ordered _ m k more post w f fs taken busy post_kept (laws.fresh o ordered m pre (k ∷ more) post (f ∷ fs) p) pre bs pre_kept at h
