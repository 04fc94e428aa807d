-- A rewrite comes to what its plan says: the leaves beside the key's, the word that links it, and the groups after.
use Rattle.std.proofs.Common.{◌≡◌, ℕ, zero, suc, ◌+◌, ◌-◌, ◌*◌, ◌/◌, ◌<◌, ◌≤◌, Bool, true, false, ◌||◌, List, [], ◌∷◌, ◌++◌, length, take, drop, ltb, eqb, get_or, is_some, Ok, Err, Option, Result, None, Some, sym, refl, ap, ◌∙◌, subst, ⊎_elim, zero-add, arith}
use Rattle.std.specs.Option.{ok_or, option_map, unwrap_or}
use Rattle.std.proofs.lemmas.Bool.{cases_lt, cond-true, cond-false, leb-true, lt-ltb, le-ltb, and_from, true≢false}
use Rattle.std.proofs.lemmas.Bool.Decides.{nat_tests}
use Rattle.std.proofs.lemmas.List.{append-nil, drop-drop, drop_more, drop_all, get_or-append_right, length-map, length-append, length-drop, length-take, take_more}
use Rattle.refusal.specs.declared.Refusal.{Refusal}
use Rattle.refusal.specs.declared.Refusal.TheVariants.{NoRoom}
use Rattle.tree.specs.Halting.{halted}
use Rattle.keys.specs.InWords.{WordKind, WordOrdered}
use Rattle.memory.specs.Meaning.{Words}
use Rattle.writes.specs.Writes.{Answer, LineWrite, Run, Store, onward, outcome, perform, single}
use Rattle.writes.specs.Laws.{change}
use Rattle.leaves.specs.Asking.{count_answer, counted, elements_told, granted}
use Rattle.leaves.specs.Layout.{count_of, elements, leaf_at, word}
use Rattle.leaves.specs.Opening.{member}
use Rattle.leaves.specs.Ascent.{all_pairs}
use Rattle.books.specs.Opens.{UpTo}
use Rattle.books.proofs.OpensLaws.{opens_from}
use Rattle.fixed_vec.specs.declared.FixedVec.{FixedVec}
use Rattle.leaves.specs.declared.leaf.Element.{Element}
use Rattle.leaves.specs.declared.leaf.Pair.{Pair}
use Rattle.rewrites.specs.Bounds.{bounds_after, last_key}
use Rattle.rewrites.specs.Shares.{shared}
use Rattle.rewrites.specs.Rewrite.{Filling, first_leaf, leaf_lines, link_at}
use Rattle.rewrites.proofs.CallLaws.{link_after, one_lines, shared_of, two_lines}
use Rattle.index.specs.declared.node.Entry.{Entry}
use Rattle.index.specs.declared.table.Index.{Index}
use Rattle.index.specs.declared.table.Place.{Place}
use Rattle.index.specs.Meaning.{grouped, listed, merged, merges, replaced, split, splits}
use Rattle.index.specs.Nodes.{bounds, entry, numbers}
use Rattle.index.specs.Places.{place_after, place_at, place_before, position, within}
use Rattle.index.specs.Search.{concat, front}
use Rattle.index.proofs.ListLaws.{offset_within}
use Rattle.index.proofs.PlaceLaws.{every_number, numbered, placed, within_parts}
use Rattle.plans.specs.declared.decision.Decision.TheVariants as decision
use Rattle.plans.specs.Plan.{Tree, next_leaf, pairs_of, refuse, rewriting, site, taken, writes}
use Rattle.plans.specs.Decisions.{decision, few as few_next}
use Rattle.plans.specs.declared.deed.Call.{Call}
use Rattle.plans.specs.declared.deed.Call.TheVariants as call
use Rattle.plans.specs.declared.decision.Decision.{Decision}
use Rattle.plans.specs.Deeds.{may_split}
use Rattle.plans.specs.Told.{NextLeaf}
use Rattle.plans.proofs.FreeLaws.{taken_free}
use Rattle.tree.specs.declared.logbook.place.Home.{Home}
use Rattle.tree.specs.declared.logbook.adopt.Regroup.TheVariants.{Split, Merge, Replace}
use Rattle.tree.specs.declared.logbook.State.TheVariants.{Open}
use Rattle.tree.specs.Shape.{groups}
use Rattle.tree.specs.Turning.{Ending, Links, Takes, Working, MergesWith, has_leaf, by_plan, count_next, decided_ending, ending, number_for, place_of, regroup_to, regrouped, rewrite_ending, some_of, tree_of, wrote}
use Rattle.tree.specs.Walk.{leaf_of, past_of}
use Rattle.tree.proofs.LocatedLaws.{number_at}
use Rattle.tree.proofs.TurnLaws.{leaf_there, number_is, same_some}
use Rattle.tree.proofs.WalkLaws.{Counted, counted_drop, length_pairs, sound_all}

pub has_of : (size k : ℕ) → 1 ≤ k → k ≤ 64 → 8 + 72 * k ≤ size → has_leaf size k ≡ true
has_of size k some most long = grind (arith, nat_tests)

-- A number of a leaf has its place, and what stands there is the leaf of that number.
module _ (gs : List (List Entry)) where
  abbrev ks : List ℕ
  ks = numbers (concat gs)

  placed_at : (i : ℕ) → i < length (concat gs) → (q : Place) × (place_at gs i ≡ Some q) × (within gs q ≡ true) × (position gs q ≡ i)
  placed_at i h = there (place_at gs i) refl where
    there : (o : Option Place) → place_at gs i ≡ o → (q : Place) × (place_at gs i ≡ Some q) × (within gs q ≡ true) × (position gs q ≡ i)
    there None e = absurd (true≢false (sym (every_number gs i ∙ lt-ltb _ _ h) ∙ ap is_some e))
    there (Some q) e = let f = numbered gs i q e in (q, e, f.0, f.1)

  unplaced_at : (i : ℕ) → length (concat gs) ≤ i → place_at gs i ≡ None
  unplaced_at i h = there (place_at gs i) refl where
    there : (o : Option Place) → place_at gs i ≡ o → place_at gs i ≡ None
    there None e = e
    there (Some q) e = absurd (true≢false (sym (ap is_some e) ∙ every_number gs i ∙ le-ltb _ _ h))

  leaf_number : (i : ℕ) → i < length (concat gs) → leaf_of gs (place_at gs i) ≡ Some (get_or ks i 0)
  leaf_number i h =
      let (q, is, t, n) = placed_at i h in
      ap (leaf_of gs) is ∙ leaf_there gs q t ∙ ap (λ (e : Entry). Some e.to) (ap (λ j. get_or (concat gs) j (entry 0 (0, 0))) n) ∙ ap Some (number_at (concat gs) i)

  -- The first of the leaves from number i on.
  first_from : (i : ℕ) → unwrap_or (leaf_of gs (place_at gs i)) 0 ≡ first_leaf (drop i ks)
  first_from i =
      ⊎_elim
      (λ h. ap (λ l. unwrap_or l 0) (leaf_number i h) ∙ ap first_leaf (sym (drop_more ks i 0 (rw length-map h))))
      (λ h. ap (λ q. unwrap_or (leaf_of gs q) 0) (unplaced_at i h) ∙ ap first_leaf (sym (drop_all i ks (rw length-map h))))
      (cases_lt i (length (concat gs)))

up_to_at : (most : ℕ) (ks : List ℕ) (i : ℕ) → UpTo most ks → i < length ks → get_or ks i 0 ≤ most
up_to_at most [] i up h = absurd (omega arith)
up_to_at most (k ∷ ks) zero up h = up.0
up_to_at most (k ∷ ks) (suc i) up h = up_to_at most ks i up.1 (omega arith)

or_no : (a b : Bool) → (a || b) ≡ false → (a ≡ false) × (b ≡ false)
or_no true b e = absurd (true≢false e)
or_no false b e = (refl, e)

not_there : (leaf : ℕ) (ks : List ℕ) (i : ℕ) → member leaf ks ≡ false → i < length ks → eqb leaf (get_or ks i 0) ≡ false
not_there leaf [] i free h = absurd (omega arith)
not_there leaf (k ∷ ks) zero free h = (or_no (eqb leaf k) (member leaf ks) free).0
not_there leaf (k ∷ ks) (suc i) free h = not_there leaf ks i (or_no (eqb leaf k) (member leaf ks) free).1 (omega arith)

-- The place before the one of a number, and the word that links the leaf there.
links_to : (gs : List (List Entry)) (p : Place) (n at most : ℕ) → within gs p ≡ true → position gs p ≡ n → ((i : ℕ) → i < length (concat gs) → get_or (numbers (concat gs)) i 0 ≤ most) → 1 ≤ most → most ≤ 64
    → Links (leaf_of gs (place_before gs p)) at → (link_at 2 (take n (numbers (concat gs))) ≡ at) × (at < 8 + 72 * most)
links_to gs p zero at most t is small some few l =
    let before : place_before gs p ≡ None = cond-true (within gs p) _ _ t ∙ cond-false (ltb 0 (position gs p)) _ _ (grind (arith, nat_tests)) in
    let is : at ≡ 2 = subst (λ q. Links (leaf_of gs q) at) before l in (sym is, omega (arith, is))
links_to gs p (suc i) at most t is small some few l =
    let w = within_parts gs p t in
    let low : i < length (concat gs) = (let f = offset_within gs p.group p.slot w.0 w.1 in omega (arith, is)) in
    let at_i : position gs p - 1 ≡ i = omega (arith, is) in
    let before : place_before gs p ≡ place_at gs i = cond-true (within gs p) _ _ t ∙ (cond-true (ltb 0 (position gs p)) _ _ (lt-ltb _ _ (omega (arith, is))) ∙ ap (place_at gs) at_i) in
    let k = get_or (numbers (concat gs)) i 0 in
    let link : Links (Some k) at = subst (λ (q : Option ℕ). Links q at) (ap (leaf_of gs) before ∙ leaf_number gs i low) l in
    let more : take (suc i) (numbers (concat gs)) ≡ take i (numbers (concat gs)) ++ (k ∷ []) = (let e : suc i ≡ i + 1 = omega arith in ap (λ j. take j (numbers (concat gs))) e ∙ take_more (numbers (concat gs)) i 0 (rw length-map low)) in
    let is : at ≡ leaf_at k = link (omega (arith, small i low, few)) in (ap (link_at 2) more ∙ link_after 2 (take i (numbers (concat gs))) k ∙ sym is, omega (arith, is, small i low, some))

-- A rewrite at work.
module _ (o : WordKind) (ordered : WordOrdered o) (m : List ℕ) (x : Index) (w : ℕ × ℕ) (h : Home) (work : Working o m x w h) where
  abbrev n : ℕ
  n = number_for o x w

  abbrev gs : List (List Entry)
  gs = grouped x

  pub low : n < length (concat gs)
  low =
      let p = within_parts gs h.place work.home.0.0 in
      let f = offset_within gs h.place.group h.place.slot p.0 p.1 in
      omega (arith, number_is o ordered m x w h work)

  pub place_is : place_of gs n ≡ h.place
  place_is = ap (λ i. unwrap_or (place_at gs i) (record { group = 0; slot = 0 })) (sym (number_is o ordered m x w h work)) ∙ ap (λ q. unwrap_or q (record { group = 0; slot = 0 })) (placed gs h.place work.home.0.0)

  after_is : place_after gs h.place ≡ place_at gs (n + 1)
  after_is = cond-true (within gs h.place) _ _ work.home.0.0 ∙ ap (λ i. place_at gs (i + 1)) (number_is o ordered m x w h work)

  -- The leaf after the key's, and the one after that.
  pub next_is : unwrap_or h.next 0 ≡ first_leaf (drop (suc n) (numbers (concat gs)))
  next_is =
      let e : n + 1 ≡ suc n = omega arith in
      ap (λ l. unwrap_or l 0) (work.home.2 ∙ ap (leaf_of gs) after_is) ∙ first_from gs (n + 1) ∙ ap (λ i. first_leaf (drop i (numbers (concat gs)))) e

  pub next_there : (k : ℕ) → Some k ≡ h.next → drop (suc n) (numbers (concat gs)) ≡ k ∷ drop (suc (suc n)) (numbers (concat gs))
  next_there k has =
      ⊎_elim
      (λ lt.
      let e : n + 1 ≡ suc n = omega arith in
      let f : n + 1 + 1 ≡ suc (suc n) = omega arith in
      let is : k ≡ get_or (numbers (concat gs)) (n + 1) 0 = same_some _ _ (has ∙ work.home.2 ∙ ap (leaf_of gs) after_is ∙ leaf_number gs (n + 1) lt) in
      ap (λ i. drop i (numbers (concat gs))) (sym e) ∙ drop_more (numbers (concat gs)) (n + 1) 0 (rw length-map lt)
      ∙ (ap (λ j. j ∷ drop (n + 1 + 1) (numbers (concat gs))) (sym is) ∙ ap (λ i. k ∷ drop i (numbers (concat gs))) f))
      (λ ge. let no = has ∙ work.home.2 ∙ ap (leaf_of gs) (after_is ∙ unplaced_at gs (n + 1) ge) in let z : ◌≡◌ {A = ℕ} 0 1 = cc in absurd (omega arith))
      (cases_lt (n + 1) (length (concat gs)))

  all_asked : Counted m (numbers (concat gs))
  all_asked = sound_all o m (numbers (concat gs)) work.fits.opens

  pub next_counted : (k : ℕ) → Some k ≡ h.next → count_answer m k ≡ Ok (count_of m k)
  next_counted k has = (subst (Counted m) (next_there k has) (counted_drop m (suc n) (numbers (concat gs)) all_asked)).0

  pub next_elements : (k : ℕ) (r : Result (FixedVec Element 16) Refusal) → Some k ≡ h.next → elements_told r ≡ counted m k (elements m k) → elements_told r ≡ Ok (elements m k (count_of m k))
  next_elements k r has e = e ∙ ap (λ (c : Result ℕ Refusal). granted c (elements m k)) (next_counted k has)

  none_next : None ≡ h.next → drop (suc n) (numbers (concat gs)) ≡ []
  none_next has =
      ⊎_elim
      (λ lt. let no = has ∙ work.home.2 ∙ ap (leaf_of gs) after_is ∙ leaf_number gs (n + 1) lt in let z : ◌≡◌ {A = ℕ} 0 1 = cc in absurd (omega arith))
      (λ ge. drop_all (suc n) (numbers (concat gs)) (rw length-map (omega (arith, ge))))
      (cases_lt (n + 1) (length (concat gs)))

  -- What the decision is told of the next leaf.
  pub count_told : count_next m h.next ≡ Ok (option_map (λ (l : NextLeaf). l.count) (next_leaf o m (drop (suc n) (numbers (concat gs)))))
  count_told = by h.next refl where
    by : (l : Option ℕ) → l ≡ h.next → count_next m l ≡ Ok (option_map (λ (l : NextLeaf). l.count) (next_leaf o m (drop (suc n) (numbers (concat gs)))))
    by None e = ap (λ ks. Ok (option_map (λ (l : NextLeaf). l.count) (next_leaf o m ks))) (sym (none_next e))
    by (Some k) e = ap some_of (next_counted k e) ∙ ap (λ ks. Ok (option_map (λ (l : NextLeaf). l.count) (next_leaf o m ks))) (sym (next_there k e))

  pub past_is : unwrap_or (past_of gs (place_after gs h.place)) 0 ≡ first_leaf (drop (suc (suc n)) (numbers (concat gs)))
  past_is =
      let e : n + 1 + 1 ≡ suc (suc n) = omega arith in
      ap (λ q. unwrap_or (past_of gs q) 0) after_is
      ∙ (⊎_elim
      (λ h.
      let (q, is, t, at) = placed_at gs (n + 1) h in
      ap (λ r. unwrap_or (past_of gs r) 0) is ∙ ap (λ r. unwrap_or (leaf_of gs r) 0) (cond-true (within gs q) _ _ t ∙ ap (λ i. place_at gs (i + 1)) at) ∙ first_from gs (n + 1 + 1))
      (λ h. ap (λ r. unwrap_or (past_of gs r) 0) (unplaced_at gs (n + 1) h) ∙ ap first_leaf (sym (drop_all (n + 1 + 1) (numbers (concat gs)) (rw length-map (omega (arith, h))))))
      (cases_lt (n + 1) (length (concat gs)))
      ∙ ap (λ i. first_leaf (drop i (numbers (concat gs)))) e)

  -- The leaves are few, and each is one of the memory.
  pub few : (length (numbers (concat gs)) < word m 3) × (word m 3 ≤ 64) × (152 ≤ length m)
  few = let opens = opens_from o m (numbers (concat gs)) work.fits.opens in (opens.spare, opens.most, opens.long)

  pub link_is : (at : ℕ) → Links (leaf_of gs (place_before gs h.place)) at → (link_at 2 (take n (numbers (concat gs))) ≡ at) × (at ≤ 4615) × (at < length m)
  link_is at l =
      let opens = opens_from o m (numbers (concat gs)) work.fits.opens in
      let to = links_to gs h.place n at (word m 3) work.home.0.0 (number_is o ordered m x w h work) (λ i lt. up_to_at (word m 3) (numbers (concat gs)) i opens.within (rw length-map lt)) (omega (arith, opens.least)) opens.most l in
      (to.0, omega (arith, to.1, opens.most), omega (arith, to.1, opens.fits))

  abbrev pre : List ℕ
  pre = take n (numbers (concat gs))

  long_pre : length pre ≡ n
  long_pre = length-take n (numbers (concat gs)) ∙ (let l = low in let k : length (numbers (concat gs)) ≡ length (concat gs) = length-map (concat gs) _ in omega (arith, l, k))

  in_pre : {X : Type 0} (xs ys : List X) (d : X) (j : ℕ) → length xs ≡ n → get_or (xs ++ ys) (n + j) d ≡ get_or ys j d
  in_pre xs ys d j e = let k : n + j - n ≡ j = omega arith in get_or-append_right xs ys n (n + j) d e (omega arith) ∙ ap (λ i. get_or ys i d) k

  at_n : {X : Type 0} (xs ys : List X) (d : X) → length xs ≡ n → get_or (xs ++ ys) n d ≡ get_or ys 0 d
  at_n xs ys d e = let k : n + 0 ≡ n = omega arith in ap (λ i. get_or (xs ++ ys) i d) (sym k) ∙ in_pre xs ys d 0 e

  -- The groups after a rewrite are those that its plan's tree tells.
  long_with : (new rest : List ℕ) → length (pre ++ (new ++ rest)) ≡ n + (length new + length rest)
  long_with new rest = let a = length-append pre (new ++ rest) in let b = length-append new rest in let p = long_pre in omega (arith, a, b, p)

  other : (leaf : ℕ) → member leaf (numbers (concat gs)) ≡ false → eqb leaf (get_or (numbers (concat gs)) n 0) ≡ false
  other leaf free = not_there leaf (numbers (concat gs)) n free (rw length-map low)

  pub replaced_is : (leaf : ℕ) (rest : List ℕ) (bs : List (ℕ × ℕ)) (last : Option ℕ) → n + (1 + length rest) ≡ length (concat gs) → member leaf (numbers (concat gs)) ≡ false
      → regroup_to gs h.place (Replace leaf) ≡ regrouped gs n (record { leaves = pre ++ ((leaf ∷ []) ++ rest); bounds = bs; last = last })
  replaced_is leaf rest bs last len free =
      let l = low in
      let long = long_with (leaf ∷ []) rest in
      let t : Tree = record { leaves = pre ++ ((leaf ∷ []) ++ rest); bounds = bs; last = last } in
      let there = at_n pre ((leaf ∷ []) ++ rest) 0 long_pre in
      cond-true (within gs h.place) _ _ work.home.0.0
      ∙ sym (cond-false (eqb (length t.leaves) (length (concat gs) + 1)) _ _ (grind (arith, nat_tests))
      ∙ (cond-false (eqb (length t.leaves + 1) (length (concat gs))) _ _ (grind (arith, nat_tests))
      ∙ (cond-false (eqb (get_or t.leaves n 0) (get_or (numbers (concat gs)) n 0)) _ _ (ap (λ k. eqb k (get_or (numbers (concat gs)) n 0)) there ∙ other leaf free)
      ∙ (ap (λ p. replaced gs p (get_or t.leaves n 0)) place_is ∙ ap (replaced gs h.place) there))))

  pub merged_is : (leaf : ℕ) (rest : List ℕ) (bs : List (ℕ × ℕ)) (last : Option ℕ) → n + (2 + length rest) ≡ length (concat gs)
      → regroup_to gs h.place (Merge leaf) ≡ regrouped gs n (record { leaves = pre ++ ((leaf ∷ []) ++ rest); bounds = bs; last = last })
  merged_is leaf rest bs last len =
      let long = long_with (leaf ∷ []) rest in
      let t : Tree = record { leaves = pre ++ ((leaf ∷ []) ++ rest); bounds = bs; last = last } in
      let there = at_n pre ((leaf ∷ []) ++ rest) 0 long_pre in
      cond-true (merges gs h.place) _ _ (ap is_some after_is ∙ every_number gs (n + 1) ∙ lt-ltb _ _ (omega (arith, len)))
      ∙ sym (cond-false (eqb (length t.leaves) (length (concat gs) + 1)) _ _ (grind (arith, nat_tests))
      ∙ (cond-true (eqb (length t.leaves + 1) (length (concat gs))) _ _ (grind (arith, nat_tests))
      ∙ (ap (λ p. merged gs p (get_or t.leaves n 0)) place_is ∙ ap (merged gs h.place) there)))

  pub split_is : (left right : ℕ) (bound : ℕ × ℕ) (rest : List ℕ) (before after : List (ℕ × ℕ)) (last : Option ℕ) → n + (1 + length rest) ≡ length (concat gs) → length before ≡ n
      → regroup_to gs h.place (Split (entry left bound) right) ≡ regrouped gs n (record { leaves = pre ++ ((left ∷ right ∷ []) ++ rest); bounds = before ++ ((bound ∷ []) ++ after); last = last })
  split_is left right bound rest before after last room len =
      let l = low in
      let f = few in
      let c : length (numbers (concat gs)) ≡ length (concat gs) = length-map (concat gs) _ in
      let long = long_with (left ∷ right ∷ []) rest in
      let t : Tree = record { leaves = pre ++ ((left ∷ right ∷ []) ++ rest); bounds = before ++ ((bound ∷ []) ++ after); last = last } in
      let one = at_n pre ((left ∷ right ∷ []) ++ rest) 0 long_pre in
      let two = in_pre pre ((left ∷ right ∷ []) ++ rest) 0 1 long_pre in
      let bnd = at_n before ((bound ∷ []) ++ after) (0, 0) len in
      cond-true (splits gs h.place) _ _ (and_from (within gs h.place) (ltb (length (concat gs)) 64) work.home.0.0 (lt-ltb _ _ (omega (arith, f.0, f.1, c))))
      ∙ sym (cond-true (eqb (length t.leaves) (length (concat gs) + 1)) _ _ (grind (arith, nat_tests))
      ∙ (ap (λ p. split gs p (get_or t.leaves n 0) (get_or t.bounds n (0, 0)) (get_or t.leaves (n + 1) 0)) place_is
      ∙ (ap (λ k. split gs h.place k (get_or t.bounds n (0, 0)) (get_or t.leaves (n + 1) 0)) one
      ∙ (ap (λ b. split gs h.place left b (get_or t.leaves (n + 1) 0)) bnd ∙ ap (split gs h.place left bound) two))))

-- A new leaf can be taken, and where two are free a second one.
module _ (o : WordKind) (ordered : WordOrdered o) (m : Words) (x : Index) (tk : Option ℕ) (w : ℕ × ℕ) (h : Home) (work : Working o m.live x w h) where
  has_taken : (used : List ℕ) (last : Option ℕ) → length used < word m.live 3 → has_leaf (length m.live) (taken (word m.live 3) used last) ≡ true
  has_taken used last spare =
      let opens = opens_from o m.live (numbers (listed x)) work.fits.opens in
      let t = taken_free (word m.live 3) used last spare in
      has_of (length m.live) (taken (word m.live 3) used last) t.0 (omega (arith, t.1, opens.most)) (omega (arith, t.1, opens.fits))

  pub takes : Takes m x tk h.place
  takes =
      let f = few o ordered m.live x w h work in
      record {
        told = omega (arith, f.2);
        leaf = has_taken (numbers (listed x)) tk f.0;
        link = λ at l. (link_is o ordered m.live x w h work at l).2;
      }

  pub takes_two : (one : ℕ) → length (numbers (listed x)) + 2 ≤ word m.live 3 → has_leaf (length m.live) (taken (word m.live 3) (one ∷ numbers (listed x)) (Some one)) ≡ true
  takes_two one room = has_taken (one ∷ numbers (listed x)) (Some one) (omega (arith, room))

-- How a rewrite ends, by its plan.
pub concluded : (n : ℕ) (m : Words) (x : Index) (taken : Option ℕ) (before : List LineWrite) (commit : Store) (t : Tree) (e : Ending) (after : Words) (steps : ℕ) (written : Answer) (now : List (List Entry)) (last : ℕ)
    → e ≡ wrote after steps written (groups now) taken (Some last) → outcome after steps written ≡ perform m (change before commit) → now ≡ regrouped (grouped x) n t → Some last ≡ t.last
    → e ≡ by_plan n m x taken (writes before commit t)
concluded n m x taken before commit t e after steps written now last is ran group took =
    is ∙ (ap (λ (r : Run). wrote r.after r.steps r.ended (groups now) taken (Some last)) ran
    ∙ (ap (λ g. wrote (perform m (change before commit)).after (perform m (change before commit)).steps (perform m (change before commit)).ended (groups g) taken (Some last)) group
    ∙ ap (wrote (perform m (change before commit)).after (perform m (change before commit)).steps (perform m (change before commit)).ended (groups (regrouped (grouped x) n t)) taken) took))

onward_none : (r : Run) → onward 0 r ≡ r
onward_none r = ap (λ k. outcome r.after k r.ended) (zero-add r.steps)

length_front : (bs : List (ℕ × ℕ)) → length (front bs) ≡ length bs - 1
length_front [] = refl
length_front (b ∷ []) = refl
length_front (b ∷ c ∷ bs) = ap suc (length_front (c ∷ bs)) ∙ omega arith

-- A split that lacks room.
pub split_crowded : (o : WordKind) (m : Words) (x : Index) (tk : Option ℕ) (w : ℕ × ℕ) (ps : List Pair) (share : ℕ) → word m.live 3 < length (numbers (listed x)) + 2
    → ending (Err (halted NoRoom 0)) m (groups (grouped x)) tk ≡ decided_ending o m x tk w ps (decision.Split share)
split_crowded o m x tk w ps share crowd = ap (by_plan (number_for o x w) m x tk) (sym (cond-true (ltb (word m.live 3) (length (numbers (listed x)) + 2)) (refuse NoRoom) _ (lt-ltb _ _ crowd)))

-- The three rewrites.
module _ (o : WordKind) (ordered : WordOrdered o) (m : Words) (x : Index) (tk : Option ℕ) (w : ℕ × ℕ) (h : Home) (work : Working o m.live x w h) (at : ℕ)
    (linked : Links (leaf_of (grouped x) (place_before (grouped x) h.place)) at) (e : Ending) (after : Words) (steps : ℕ) (written : Answer) where
  abbrev row : List ℕ
  row = numbers (listed x)

  abbrev num : ℕ
  num = number_for o x w

  rest_long : num + (1 + length (drop (suc num) row)) ≡ length (concat (grouped x))
  rest_long =
      let a = length-drop (suc num) row in
      let c : length row ≡ length (concat (grouped x)) = length-map (concat (grouped x)) _ in
      let l = low o ordered m.live x w h work in
      omega (arith, a, c, l)

  -- The leaf that is taken next.
  abbrev one : ℕ
  one = taken (word m.live 3) row tk

  pub one_free : (1 ≤ one) × (one ≤ 64) × (member one row ≡ false)
  one_free =
      let f = few o ordered m.live x w h work in
      let t = taken_free (word m.live 3) row tk f.0 in
      (t.0, omega (arith, t.1, f.1), t.2)

  -- A rewrite into these leaves, with so many more that go and the leaves after them.
  abbrev rewrote : List Filling → List ℕ → List ℕ → Ending
  rewrote fs more rest = by_plan num m x tk (rewriting (tree_of x tk) (site o (tree_of x tk) w) fs more rest)

  filled : (k leaf : ℕ) (ps qs : List Pair) → leaf ≡ k → ps ≡ qs → ◌≡◌ {A = Filling} (record { leaf = leaf; content = ps }) (record { leaf = k; content = qs })
  filled k leaf ps qs is same = cc

  pub replace_ends : (ps : List Pair) (leaf next : ℕ) → leaf ≡ one → next ≡ unwrap_or h.next 0
      → e ≡ wrote after steps written (groups (regroup_to (grouped x) h.place (Replace leaf))) tk (Some leaf)
      → (1 ≤ leaf → leaf ≤ 64 → at ≤ 4615 → outcome after steps written ≡ onward 0 (perform m (leaf_lines next (record { leaf = leaf; content = ps }) ++ (single (record { at = at; word = leaf }) ∷ []))))
      → e ≡ decided_ending o m x tk w ps decision.Replace
  replace_ends ps leaf next is next_at end run =
      let f = one_free in
      let link = link_is o ordered m.live x w h work at linked in
      let rest = drop (suc num) row in
      let new : Filling = record { leaf = leaf; content = ps } in
      let ran = run (omega (arith, f.0, is)) (omega (arith, f.1, is)) link.1 ∙ onward_none _ in
      let lines = one_lines (take num row) rest link.0 (sym (next_is o ordered m.live x w h work) ∙ sym next_at) new in
      let group = replaced_is o ordered m.live x w h work leaf rest (bounds_after (length (take num row)) 0 (new ∷ []) (front (bounds (listed x)))) (Some leaf) rest_long (subst (λ k. member k row ≡ false) (sym is) f.2) in
      concluded num m x tk _ _ _ e after steps written (regroup_to (grouped x) h.place (Replace leaf)) leaf end (ran ∙ ap (perform m) lines) group refl
      ∙ ap (λ g. rewrote (g ∷ []) [] rest) (filled one leaf ps (ps ++ []) is (sym (append-nil ps)))

  -- A merge, with the pairs of the next leaf after the key's.
  pub merge_ends : (ps qs : List Pair) (k leaf next : ℕ) → Some k ≡ h.next → qs ≡ ps ++ pairs_of o m.live k → leaf ≡ one → next ≡ unwrap_or (past_of (grouped x) (place_after (grouped x) h.place)) 0
      → e ≡ wrote after steps written (groups (regroup_to (grouped x) h.place (Merge leaf))) tk (Some leaf)
      → (1 ≤ leaf → leaf ≤ 64 → at ≤ 4615 → outcome after steps written ≡ onward 0 (perform m (leaf_lines next (record { leaf = leaf; content = qs }) ++ (single (record { at = at; word = leaf }) ∷ []))))
      → e ≡ decided_ending o m x tk w ps decision.Merge
  merge_ends ps qs k leaf next has all is next_at end run =
      let f = one_free in
      let link = link_is o ordered m.live x w h work at linked in
      let rest = drop 1 (drop (suc num) row) in
      let new : Filling = record { leaf = leaf; content = qs } in
      let more = next_there o ordered m.live x w h work k has in
      let gone : take 1 (drop (suc num) row) ≡ k ∷ [] = ap (take 1) more in
      let long : num + (2 + length rest) ≡ length (concat (grouped x)) = (let l = ap length more in let d = length-drop 1 (drop (suc num) row) in let r = rest_long in omega (arith, l, d, r)) in
      let ran = run (omega (arith, f.0, is)) (omega (arith, f.1, is)) link.1 ∙ onward_none _ in
      let past : first_leaf rest ≡ next = ap first_leaf (drop-drop 1 (suc num) row) ∙ ap (λ i. first_leaf (drop i row)) (let i : suc num + 1 ≡ suc (suc num) = omega arith in i) ∙ (sym (past_is o ordered m.live x w h work) ∙ sym next_at) in
      let lines = one_lines (take num row) rest link.0 past new in
      let group = merged_is o ordered m.live x w h work leaf rest (bounds_after (length (take num row)) (length (take 1 (drop (suc num) row))) (new ∷ []) (front (bounds (listed x)))) (Some leaf) long in
      concluded num m x tk _ _ _ e after steps written (regroup_to (grouped x) h.place (Merge leaf)) leaf end (ran ∙ ap (perform m) lines) group refl
      ∙ ap (λ g. rewrote (g ∷ []) (take 1 (drop (suc num) row)) rest) (filled one leaf qs (ps ++ all_pairs o m.live (take 1 (drop (suc num) row))) is (all ∙ ap (λ a. ps ++ a) (sym (ap (all_pairs o m.live) gone ∙ append-nil (pairs_of o m.live k)))))

  -- A split, refused where two free leaves are not to be had.
  abbrev two : ℕ
  two = taken (word m.live 3) (one ∷ row) (Some one)

  two_free : length row + 2 ≤ word m.live 3 → (1 ≤ two) × (two ≤ 64) × (member two (one ∷ row) ≡ false)
  two_free room =
      let f = few o ordered m.live x w h work in
      let t = taken_free (word m.live 3) (one ∷ row) (Some one) (omega (arith, room)) in
      (t.0, omega (arith, t.1, f.1), t.2)

  bounds_long : length (take (length (take num row)) (front (bounds (listed x)))) ≡ num
  bounds_long =
      let l = low o ordered m.live x w h work in
      let p = long_pre o ordered m.live x w h work in
      let c : length (bounds (listed x)) ≡ length (concat (grouped x)) = length-map (concat (grouped x)) _ in
      let f = length_front (bounds (listed x)) in
      length-take (length (take num row)) (front (bounds (listed x))) ∙ omega (arith, l, p, c, f)

  halved : (share left right : ℕ) (ps qs : List Pair) → left ≡ one → right ≡ two → ps ≡ qs
      → ◌≡◌ {A = List Filling} (record { leaf = left; content = take share ps } ∷ record { leaf = right; content = drop share ps } ∷ []) (record { leaf = one; content = take share qs } ∷ record { leaf = two; content = drop share qs } ∷ [])
  halved share left right ps qs l r same = cc

  pub split_ends : (ps : List Pair) (share left right next : ℕ) (bound : ℕ × ℕ) → length row + 2 ≤ word m.live 3 → left ≡ one → right ≡ two → next ≡ unwrap_or h.next 0 → bound ≡ last_key (take share ps)
      → share ≤ 16 → share ≤ length ps → length ps ≤ 17 → length ps ≤ share + 16
      → e ≡ wrote after steps written (groups (regroup_to (grouped x) h.place (Split (entry left bound) right))) tk (Some right)
      → (shared left right (length ps) share ≡ true → at ≤ 4615 → outcome after steps written ≡ onward 0 (perform m (leaf_lines right (record { leaf = left; content = take share ps }) ++ (leaf_lines next (record { leaf = right; content = drop share ps }) ++ (single (record { at = at; word = left }) ∷ [])))))
      → e ≡ decided_ending o m x tk w ps (decision.Split share)
  split_ends ps share left right next bound room l r next_at bound_is most part all others end run =
      let f = one_free in
      let g = two_free room in
      let link = link_is o ordered m.live x w h work at linked in
      let rest = drop (suc num) row in
      let bs = front (bounds (listed x)) in
      let new : Filling = record { leaf = left; content = take share ps } in
      let more : Filling = record { leaf = right; content = drop share ps } in
      let fit = shared_of left right (length ps) share (record {
        left_some = omega (arith, f.0, l);
        left_most = omega (arith, f.1, l);
        right_some = omega (arith, g.0, r);
        right_most = omega (arith, g.1, r);
        all = all;
        part = part;
        first = most;
        others = omega (arith, others);
      }) in
      let ran = run fit link.1 ∙ onward_none _ in
      let lines = two_lines (take num row) rest link.0 (sym (next_is o ordered m.live x w h work) ∙ sym next_at) new more in
      let group = split_is o ordered m.live x w h work left right (last_key (take share ps)) rest (take (length (take num row)) bs) (drop (length (take num row) + 0) bs) (Some right) rest_long bounds_long in
      concluded num m x tk _ _ _ e after steps written (regroup_to (grouped x) h.place (Split (entry left (last_key (take share ps))) right)) right
      (subst (λ b. e ≡ wrote after steps written (groups (regroup_to (grouped x) h.place (Split (entry left b) right))) tk (Some right)) bound_is end) (ran ∙ ap (perform m) lines) group refl
      ∙ (ap (λ gs. rewrote gs [] rest) (halved share left right ps (ps ++ []) l r (sym (append-nil ps)))
      ∙ ap (by_plan num m x tk) (sym (cond-false (ltb (word m.live 3) (length row + 2)) (refuse NoRoom) _ (le-ltb _ _ room))))

-- The greatest key of so many of the smallest pairs.
last_key_of : (ps : List Pair) (i : ℕ) (p : Pair) → i < length ps → p ≡ get_or ps i p → p.key ≡ last_key (take (suc i) ps)
last_key_of [] i p h is = absurd (omega arith)
last_key_of (q ∷ ps) zero p h is = ap (λ (x : Pair). x.key) is
last_key_of (q ∷ []) (suc i) p h is = absurd (omega arith)
last_key_of (q ∷ r ∷ ps) (suc i) p h is = last_key_of (r ∷ ps) i p (omega arith) is

pub last_key_at : (ps : List Pair) (share : ℕ) (p : Pair) → 1 ≤ share → share ≤ length ps → p ≡ get_or ps (share - 1) p → p.key ≡ last_key (take share ps)
last_key_at ps share p some few is = let e : suc (share - 1) ≡ share = omega arith in last_key_of ps (share - 1) p (omega (arith, some, few)) is ∙ ap (λ i. last_key (take i ps)) e

pub right_is : (a A b B r : ℕ) (ks : List ℕ) → r ≡ taken a (b ∷ ks) (Some b) → a ≡ A → b ≡ B → r ≡ taken A (B ∷ ks) (Some B)
right_is a A b B r ks f ea eb = f ∙ (ap (λ n. taken n (b ∷ ks) (Some b)) ea ∙ ap (λ k. taken A (k ∷ ks) (Some k)) eb)

pub has_next : (next : Option ℕ) (k : ℕ) (e : Refusal) → ok_or next e ≡ Ok k → Some k ≡ next
has_next None k e h = let z : ◌≡◌ {A = ℕ} 0 1 = cc in absurd (omega arith)
has_next (Some j) k e h = cc

pub same_index : (a b : Index) → Open a ≡ Open b → a ≡ b
same_index a b e = cc

-- What the rule's decision says of what it was told.
pub decision_split : (may : Bool) (n : ℕ) (next : Option ℕ) (left : ℕ) → decision.Split left ≡ decision may n next → (8 < n) × (left ≡ n / 2)
decision_split may n next left e = grind (arith, nat_tests)

pub decision_merge : (may : Bool) (n : ℕ) (next : Option ℕ) → decision.Merge ≡ decision may n next → (n ≤ 8) × (few_next next ≡ true)
decision_merge may n next e = grind (arith, nat_tests)

pub decision_replace : (n : ℕ) (next : Option ℕ) → decision.Replace ≡ decision true n next → n ≤ 8
decision_replace n next e = grind (arith, nat_tests)

pub same_count : (a b : Option ℕ) → ◌≡◌ {A = Result (Option ℕ) Refusal} (Ok a) (Ok b) → a ≡ b
same_count a b e = cc

count_is : (m : List ℕ) (k c : ℕ) → Ok c ≡ count_answer m k → c ≡ count_of m k
count_is m k c e = grind (arith, nat_tests)

-- Where the rule merges, both leaves fit in one.
pub merges_with : (o : WordKind) (m : List ℕ) (next : Option ℕ) (n : ℕ) (count : Option ℕ) → Ok count ≡ count_next m next → n ≤ 8 → few_next count ≡ true → MergesWith o m next n
merges_with o m None n count is small t = let e : count ≡ None = cc in absurd (true≢false (sym t ∙ ap few_next e))
merges_with o m (Some k) n count is small t = by (count_answer m k) refl is where
  by : (r : Result ℕ Refusal) → r ≡ count_answer m k → Ok count ≡ some_of r → n + length (pairs_of o m k) ≤ 16
  by (Err e) r_is told = let z : ◌≡◌ {A = ℕ} 0 1 = cc in absurd (omega arith)
  by (Ok c) r_is told =
      let same : c ≡ count_of m k = count_is m k c r_is in
      let counted : count ≡ Some c = same_count _ _ told in
      let eight : c ≤ 8 = leb-true c 8 (sym (ap few_next counted) ∙ t) in
      omega (arith, small, eight, same, length_pairs o m k (count_of m k))

-- The rule's choice is what the code decides.
pub rule_is : (o : WordKind) (ordered : WordOrdered o) (m : Words) (x : Index) (tk : Option ℕ) (w : ℕ × ℕ) (h : Home) → Working o m.live x w h
    → (call : Call) (ps : List Pair) (count : Option ℕ) (may : Bool) (n : ℕ) (d : Decision) (e : Ending) → Ok count ≡ count_next m.live h.next → may ≡ may_split call → n ≡ length ps → d ≡ decision may n count
    → e ≡ decided_ending o m x tk w ps d → e ≡ rewrite_ending o m x tk w call ps
rule_is o ordered m x tk w h work call ps count may n d e told may_is n_is d_is is =
    let count_is = same_count _ _ (told ∙ count_told o ordered m.live x w h work) in
    is ∙ ap (decided_ending o m x tk w ps) (d_is ∙ (ap (λ b. decision b n count) may_is ∙ (ap (λ k. decision (may_split call) k count) n_is ∙ ap (decision (may_split call) (length ps)) count_is)))

-- Where the rule replaces, one leaf takes all.
pub replaced_few : (asked : Call) (may : Bool) (n : ℕ) (count : Option ℕ) (ps : List Pair) → decision.Replace ≡ decision may n count → may ≡ may_split asked → n ≡ length ps → (asked ≡ call.Remove → length ps ≤ 16) → length ps ≤ 16
replaced_few call.Put may n count ps is may_is size small = let e : decision.Replace ≡ decision true n count = is ∙ ap (λ b. decision b n count) may_is in omega (arith, decision_replace n count e, size)
replaced_few call.Change may n count ps is may_is size small = let e : decision.Replace ≡ decision true n count = is ∙ ap (λ b. decision b n count) may_is in omega (arith, decision_replace n count e, size)
replaced_few call.Remove may n count ps is may_is size small = small refl
