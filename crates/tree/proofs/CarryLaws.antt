-- A call carried out comes to what its plan says.
use Rattle.std.proofs.Common.{◌≡◌, ℕ, ◌+◌, ◌<◌, ◌≤◌, List, [], ◌∷◌, length, leb, eqb, get_or, Ok, Err, Option, Result, None, Some, sym, refl, ap, ◌∙◌, subst, ⊎_elim, arith}
use Rattle.std.proofs.lemmas.Bool.{cases_Bool, cond-true, cond-false, le-leb}
use Rattle.std.proofs.lemmas.Bool.Decides.{nat_tests}
use Rattle.std.proofs.lemmas.List.{length-map}
use Rattle.keys.specs.InWords.{WordKind, WordOrdered}
use Rattle.memory.specs.Meaning.{Words}
use Rattle.writes.specs.Writes.{Run, outcome, perform}
use Rattle.leaves.specs.declared.leaf.Pair.{Pair}
use Rattle.leaves.specs.Layout.{count_of}
use Rattle.leaves.specs.Pairs.{lookup}
use Rattle.appends.specs.Append.{all_applied, append_lines, raised, slot_lines}
use Rattle.appends.specs.Calls.{change_elements}
use Rattle.appends.proofs.CallLaws.{calls_are_hold}
use Rattle.index.specs.declared.table.Index.{Index}
use Rattle.index.specs.Meaning.{grouped}
use Rattle.index.specs.Nodes.{numbers}
use Rattle.index.specs.Search.{concat}
use Rattle.plans.specs.declared.deed.Deed.{Deed}
use Rattle.plans.specs.declared.deed.Deed.TheVariants.{Put, Change, Remove}
use Rattle.plans.specs.Deeds.{call_of, done, key_of}
use Rattle.plans.specs.Plan.{Site, Tree, elements, granted, pairs_of, site, wish, writes, written}
use Rattle.plans.specs.Told.{by_rule}
use Rattle.tree.specs.declared.logbook.carry.Halt.{Halt}
use Rattle.tree.specs.declared.logbook.place.Home.{Home}
use Rattle.tree.specs.declared.logbook.State.{State}
use Rattle.tree.specs.declared.logbook.State.TheVariants.{Open}
use Rattle.tree.specs.Halting.{ended, state_after, steps_of}
use Rattle.tree.specs.Shape.{groups, shape_of}
use Rattle.tree.specs.Turning.{Working, by_plan, call_ending, changed, ending, number_for, regrouped, rewrite_ending, tree_of, wrote}
use Rattle.tree.proofs.TurnLaws.{called, leaf_is}

-- A tree that stays is not regrouped.
pub same_tree : (x : Index) (n : ℕ) (taken : Option ℕ) → regrouped (grouped x) n (tree_of x taken) ≡ grouped x
same_tree x n taken =
    let gs = grouped x in
    let long : length (numbers (concat gs)) ≡ length (concat gs) = length-map (concat gs) _ in
    cond-false (eqb (length (numbers (concat gs))) (length (concat gs) + 1)) _ _ (grind (arith, nat_tests))
    ∙ cond-false (eqb (length (numbers (concat gs)) + 1) (length (concat gs))) _ _ (grind (arith, nat_tests))
    ∙ cond-true (eqb (get_or (numbers (concat gs)) n 0) (get_or (numbers (concat gs)) n 0)) _ _ (grind (arith, nat_tests))

-- How a call that wrote line writes ends.
pub wrote_is : (x : Index) (taken : Option ℕ) (r : Result ℕ Halt) (after : Words) (run : Run) (s : State) → outcome after (steps_of r) (ended r) ≡ run → s ≡ state_after (Open x) (ended r)
    → ending r after (shape_of s) taken ≡ wrote run.after run.steps run.ended (groups (grouped x)) taken taken
wrote_is x taken (Ok n) after run s e is = rw (sym e, is) refl
wrote_is x taken (Err h) after run s e is = rw (sym e, is) refl

-- The elements of a call do to any pairs what the call does.
same_list : (xs ys : List (ℕ × ℕ)) → elements xs ≡ elements ys → xs ≡ ys
same_list xs ys e = cc

pub applied_is : (o : WordKind) (d : Deed) (held : Option ℕ) (xs : List (ℕ × ℕ)) (ps : List Pair) → elements xs ≡ wish d held → all_applied o (key_of d) xs ps ≡ done o d ps
applied_is o (Put w r) None xs ps e = rw (same_list _ _ e) (calls_are_hold o w ps 0 r).0
applied_is o (Put w r) (Some old) xs ps e = let z : ◌≡◌ {A = ℕ} 0 1 = cc in absurd (omega arith)
applied_is o (Change w r) None xs ps e = let z : ◌≡◌ {A = ℕ} 0 1 = cc in absurd (omega arith)
applied_is o (Change w r) (Some old) xs ps e =
    ⊎_elim
    (λ t. let no = e ∙ cond-true (eqb old r) granted (elements (change_elements old r)) t in let z : ◌≡◌ {A = ℕ} 0 1 = cc in absurd (omega arith))
    (λ f. rw (same_list _ _ (e ∙ cond-false (eqb old r) granted (elements (change_elements old r)) f)) (calls_are_hold o w ps old r).2)
    (cases_Bool (eqb old r))
applied_is o (Remove w) None xs ps e = let z : ◌≡◌ {A = ℕ} 0 1 = cc in absurd (omega arith)
applied_is o (Remove w) (Some old) xs ps e = rw (same_list _ _ e) (calls_are_hold o w ps old 0).1

-- What is written for a leaf k.
module _ (o : WordKind) (m : Words) (x : Index) (taken : Option ℕ) (d : Deed) (xs : List (ℕ × ℕ)) where
  abbrev t : Tree
  t = tree_of x taken

  abbrev s : Site
  s = site o t (key_of d)

  abbrev ps : List Pair
  ps = all_applied o (key_of d) xs (pairs_of o m.live s.leaf)

  short : (k : ℕ) → k ≡ s.leaf → count_of m.live k + length xs ≤ 16
      → written by_rule o m.live t s d xs ps ≡ writes (slot_lines k (count_of m.live k) (key_of d) xs) (raised k (count_of m.live k) xs) t
  short k e h =
      subst (λ j. count_of m.live j + length xs ≤ 16 → written by_rule o m.live t s d xs ps ≡ writes (slot_lines j (count_of m.live j) (key_of d) xs) (raised j (count_of m.live j) xs) t) (sym e)
      (λ g. cond-true (leb (count_of m.live s.leaf + length xs) 16) _ _ (le-leb _ _ g)) h

  long : (k : ℕ) → k ≡ s.leaf → 16 < count_of m.live k + length xs
      → by_plan (number_for o x (key_of d)) m x taken (written by_rule o m.live t s d xs ps) ≡ rewrite_ending o m x taken (key_of d) (call_of d) ps
  long k e h =
      subst (λ j. 16 < count_of m.live j + length xs → by_plan (number_for o x (key_of d)) m x taken (written by_rule o m.live t s d xs ps) ≡ rewrite_ending o m x taken (key_of d) (call_of d) ps) (sym e)
      (λ g. ap (by_plan (number_for o x (key_of d)) m x taken) (cond-false (leb (count_of m.live s.leaf + length xs) 16) _ _ (grind (arith, nat_tests)))) h

module _ (o : WordKind) (ordered : WordOrdered o) (m : Words) (x : Index) (taken : Option ℕ) (d : Deed) (h : Home) (work : Working o m.live x (key_of d) h) (xs : List (ℕ × ℕ))
    (is : changed xs ≡ wish d (lookup (key_of d) (pairs_of o m.live h.leaf))) where
  -- Nothing to do.
  pub nothing_done : (st : State) → xs ≡ [] → st ≡ Open x → ending (Ok 0) m (shape_of st) taken ≡ call_ending o m (Open x) taken d
  nothing_done st none open_is = rw open_is (called o ordered m x taken d h work granted (ap changed (sym none) ∙ is))

  some_changed : (ys : List (ℕ × ℕ)) → 0 < length ys → changed ys ≡ elements ys
  some_changed [] some = absurd (omega arith)
  some_changed (y ∷ ys) some = refl

  asked : 0 < length xs → elements xs ≡ wish d (lookup (key_of d) (pairs_of o m.live h.leaf))
  asked some = sym (some_changed xs some) ∙ is

  -- An append.
  pub appended : 0 < length xs → (n : ℕ) → n ≡ count_of m.live h.leaf → n + length xs ≤ 16
      → (r : Result ℕ Halt) (after : Words) (st : State) → outcome after (steps_of r) (ended r) ≡ perform m (append_lines h.leaf n (key_of d) xs) → st ≡ state_after (Open x) (ended r)
      → ending r after (shape_of st) taken ≡ call_ending o m (Open x) taken d
  appended some n count room r after st run st_is =
      let lines = append_lines h.leaf (count_of m.live h.leaf) (key_of d) xs in
      let ran = run ∙ ap (λ k. perform m (append_lines h.leaf k (key_of d) xs)) count in
      let here = leaf_is o ordered m.live x (key_of d) h work in
      wrote_is x taken r after (perform m lines) st ran st_is
      ∙ (ap (λ gs. wrote (perform m lines).after (perform m lines).steps (perform m lines).ended (groups gs) taken taken) (sym (same_tree x (number_for o x (key_of d)) taken))
      ∙ (ap (by_plan (number_for o x (key_of d)) m x taken) (sym (short o m x taken d xs h.leaf here (subst (λ k. k + length xs ≤ 16) count room)))
      ∙ called o ordered m x taken d h work (elements xs) (asked some)))

  -- A rewrite.
  pub rewritten_is : 0 < length xs → 16 < count_of m.live h.leaf + length xs → (qs : List Pair) → qs ≡ done o d (pairs_of o m.live h.leaf) → rewrite_ending o m x taken (key_of d) (call_of d) qs ≡ call_ending o m (Open x) taken d
  rewritten_is some full qs q =
      let here = leaf_is o ordered m.live x (key_of d) h work in
      let same = q ∙ sym (applied_is o d (lookup (key_of d) (pairs_of o m.live h.leaf)) xs (pairs_of o m.live h.leaf) (asked some)) ∙ ap (λ k. all_applied o (key_of d) xs (pairs_of o m.live k)) here in
      ap (rewrite_ending o m x taken (key_of d) (call_of d)) same
      ∙ (sym (long o m x taken d xs h.leaf here full) ∙ called o ordered m x taken d h work (elements xs) (asked some))
