-- The next free leaf: how it is found, that it is free, and that there is one while there are more leaves than those in use.
use Rattle.std.proofs.Common.{◌≡◌, ℕ, zero, suc, ◌+◌, ◌-◌, ◌<◌, ◌≤◌, min, Bool, true, false, not, ◌||◌, ◌==◌, List, [], ◌∷◌, ◌++◌, length, Some, None, Option, sym, refl, ap, ◌∙◌, subst, ⊎_elim, arith}
use Rattle.std.proofs.lemmas.Bool.{cases_Bool, cases_lt, cond-true, cond-false, both_ways, or_cases, or_left, or_right, eqb-true, eq-eqb}
use Rattle.std.proofs.lemmas.Bool.Decides.{nat_tests}
use Rattle.std.proofs.lemmas.List.Folds.{find-append}
use Rattle.std.proofs.lemmas.Option.{none-some, same_Some}
use Rattle.std.specs.List.{find, filter, list_any, range_with_len}
use Rattle.std.specs.Option.{option_or, unwrap_or}
use Rattle.leaves.specs.Opening.{member}
use Rattle.plans.specs.Free.{leaves_after, candidates, free_leaf, TakesFree, AlwaysFree, AllCandidates}
use Rattle.plans.specs.Plan.{taken}

leaves_step : (low high : ℕ) → low < high → leaves_after low high ≡ (low + 1) ∷ leaves_after (low + 1) high
leaves_step low high lt = let e : high - low ≡ suc (high - (low + 1)) = omega arith in ap (range_with_len (low + 1)) e

module _ (used : List ℕ) (low high : ℕ) (lt : low < high) where
  pub free_here : member (low + 1) used ≡ false → find (λ k. not (member k used)) (leaves_after low high) ≡ Some (low + 1)
  free_here f = ap (find (λ k. not (member k used))) (leaves_step low high lt) ∙ cond-true (not (member (low + 1) used)) _ _ (ap not f)

  pub free_later : member (low + 1) used ≡ true → find (λ k. not (member k used)) (leaves_after low high) ≡ find (λ k. not (member k used)) (leaves_after (low + 1) high)
  free_later t = ap (find (λ k. not (member k used))) (leaves_step low high lt) ∙ cond-false (not (member (low + 1) used)) _ _ (ap not t)

pub member_is : (x : ℕ) (ks : List ℕ) → list_any (λ y. y == x) ks ≡ member x ks
member_is x [] = refl
member_is x (k ∷ ks) = let ih = member_is x ks in grind (arith, nat_tests)

-- Round from 1 on only where no later leaf is free.
module _ (n : ℕ) (used : List ℕ) (last : Option ℕ) where
  abbrev up : Option ℕ
  up = find (λ k. not (member k used)) (leaves_after (unwrap_or last 0) n)

  abbrev round : Option ℕ
  round = find (λ k. not (member k used)) (leaves_after 0 (min (unwrap_or last 0) n))

  joined : free_leaf n used last ≡ option_or up round
  joined = find-append (λ k. not (member k used)) (leaves_after (unwrap_or last 0) n) (leaves_after 0 (min (unwrap_or last 0) n))

  pub free_round : up ≡ None → free_leaf n used last ≡ round
  free_round none = joined ∙ ap (λ x. option_or x round) none

  pub free_up : (up ≡ None → ⊥) → free_leaf n used last ≡ up
  free_up some = joined ∙ there up some where
    there : (x : Option ℕ) → (x ≡ None → ⊥) → option_or x round ≡ x
    there None h = absurd (h refl)
    there (Some k) h = refl

abbrev without : ℕ → List ℕ → List ℕ
without x ys = filter (λ y. not (x == y)) ys

without_fewer : (x : ℕ) (ys : List ℕ) → length (without x ys) ≤ length ys
without_fewer x [] = omega arith
without_fewer x (y ∷ ys) = let more = without_fewer x ys in grind (arith, nat_tests)

without_less : (x : ℕ) (ys : List ℕ) → member x ys ≡ true → length (without x ys) < length ys
without_less x [] h = absurd (both_ways _ refl h)
without_less x (y ∷ ys) h =
    let fewer = without_fewer x ys in
    let more : member x ys ≡ true → length (without x ys) < length ys = without_less x ys in
    grind (arith, nat_tests)

without_others : (x k : ℕ) (ys : List ℕ) → (k ≡ x → ⊥) → member k ys ≡ true → member k (without x ys) ≡ true
without_others x k [] other h = h
without_others x k (y ∷ ys) other h = let more : member k ys ≡ true → member k (without x ys) ≡ true = without_others x k ys other in grind (arith, nat_tests)

-- A list that has every number from 1 to n has at least n.
all_used : (n : ℕ) (used : List ℕ) → ((k : ℕ) → 1 ≤ k → k ≤ n → member k used ≡ true) → n ≤ length used
all_used zero used h = omega arith
all_used (suc n) used h =
    let more = all_used n (without (suc n) used) (λ k l m. without_others (suc n) k used (λ e. omega arith) (h k l (omega arith))) in
    let less = without_less (suc n) used (h (suc n) (omega arith) (omega arith)) in
    omega arith

range_in : (a n k : ℕ) → a ≤ k → k < a + n → member k (range_with_len a n) ≡ true
range_in a zero k l h = absurd (omega arith)
range_in a (suc n) k l h = let more : a + 1 ≤ k → member k (range_with_len (a + 1) n) ≡ true = λ le. range_in (a + 1) n k le (omega arith) in grind (arith, nat_tests)

range_out : (a n k : ℕ) → member k (range_with_len a n) ≡ true → (a ≤ k) × (k < a + n)
range_out a zero k h = absurd (both_ways _ refl h)
range_out a (suc n) k h = let more : member k (range_with_len (a + 1) n) ≡ true → (a + 1 ≤ k) × (k < (a + 1) + n) = range_out (a + 1) n k in grind (arith, nat_tests)

member_append : (k : ℕ) (xs ys : List ℕ) → member k (xs ++ ys) ≡ (member k xs || member k ys)
member_append k [] ys = refl
member_append k (x ∷ xs) ys = let more = member_append k xs ys in grind (arith, nat_tests)

leaf_in : (low high k : ℕ) → low < k → k ≤ high → member k (leaves_after low high) ≡ true
leaf_in low high k lt le = range_in (low + 1) (high - low) k (omega arith) (omega arith)

leaf_out : (low high k : ℕ) → member k (leaves_after low high) ≡ true → (low < k) × (k ≤ high)
leaf_out low high k h = let r = range_out (low + 1) (high - low) k h in (omega (arith, r.0), omega (arith, r.0, r.1))

pub all_candidates_hold : AllCandidates
all_candidates_hold n last k =
    let t = unwrap_or last 0 in
    let e = member_append k (leaves_after t n) (leaves_after 0 (min t n)) in (
      λ least most. ⊎_elim (λ lt. e ∙ or_left _ _ (leaf_in t n k lt most)) (λ le. e ∙ or_right _ _ (leaf_in 0 (min t n) k (omega arith) (omega arith))) (cases_lt t k),
      λ h. ⊎_elim (λ up. let r = leaf_out t n k up in (omega (arith, r.0), r.1)) (λ round. let r = leaf_out 0 (min t n) k round in (omega (arith, r.0), omega (arith, r.1))) (or_cases _ _ (sym e ∙ h)),
    )

-- What a search for one that is not used comes to.
record Found (used cs : List ℕ) (k : ℕ) : Type 0 where
  free : member k used ≡ false
  before : List ℕ
  after : List ℕ
  order : cs ≡ before ++ k ∷ after
  passed : (j : ℕ) → member j before ≡ true → member j used ≡ true

module _ (used : List ℕ) where
  abbrev is_free : ℕ → Bool
  is_free k = not (member k used)

  found : (cs : List ℕ) (k : ℕ) → find is_free cs ≡ Some k → Found used cs k
  found [] k h = absurd (none-some k h)
  found (c ∷ cs) k h =
      ⊎_elim
      (λ t.
      let f = found cs k (sym (cond-false (is_free c) (Some c) (find is_free cs) (ap not t)) ∙ h) in
      record {
        free = f.free;
        before = c ∷ f.before;
        after = f.after;
        order = ap (λ ks. c ∷ ks) f.order;
        passed = λ j h. ⊎_elim (λ e. ap (λ x. member x used) (eqb-true j c e) ∙ t) (λ r. f.passed j r) (or_cases (j == c) _ h);
      })
      (λ f.
      let is : c ≡ k = same_Some c k (sym (cond-true (is_free c) (Some c) (find is_free cs) (ap not f)) ∙ h) in
      record {
        free = ap (λ x. member x used) (sym is) ∙ f;
        before = [];
        after = cs;
        order = ap (λ x. x ∷ cs) is;
        passed = λ j h. absurd (both_ways _ refl h);
      })
      (cases_Bool (member c used))

  none : (cs : List ℕ) → find is_free cs ≡ None → (k : ℕ) → member k cs ≡ true → member k used ≡ true
  none [] h k there = absurd (both_ways _ refl there)
  none (c ∷ cs) h k there =
      ⊎_elim
      (λ t. ⊎_elim (λ e. ap (λ x. member x used) (eqb-true k c e) ∙ t) (λ r. none cs (sym (cond-false (is_free c) (Some c) (find is_free cs) (ap not t)) ∙ h) k r) (or_cases (k == c) _ there))
      (λ f. absurd (none-some c (sym h ∙ cond-true (is_free c) (Some c) (find is_free cs) (ap not f))))
      (cases_Bool (member c used))

pub takes_free_holds : TakesFree
takes_free_holds n used last k h =
    let f = found used (candidates n last) k h in
    let there = ap (member k) f.order ∙ member_append k f.before (k ∷ f.after) ∙ or_right _ _ (or_left (k == k) _ (eq-eqb k k refl)) in
    let in_range = (all_candidates_hold n last k).1 there in
    record { least = in_range.0; most = in_range.1; free = f.free; before = f.before; after = f.after; order = f.order; passed = f.passed }

pub always_free_holds : AlwaysFree
always_free_holds n used last fewer = there (free_leaf n used last) refl where
  there : (x : Option ℕ) → free_leaf n used last ≡ x → (k : ℕ) × (free_leaf n used last ≡ Some k)
  there None h = absurd (let most = all_used n used (λ k l m. none used (candidates n last) h k ((all_candidates_hold n last k).0 l m)) in omega arith)
  there (Some k) h = (k, h)

-- The leaf that is taken is one of all, and free.
pub taken_free : (n : ℕ) (used : List ℕ) (last : Option ℕ) → length used < n → (1 ≤ taken n used last) × (taken n used last ≤ n) × (member (taken n used last) used ≡ false)
taken_free n used last fewer =
    let (k, is) = always_free_holds n used last fewer in
    let f = takes_free_holds n used last k is in
    subst (λ x. (1 ≤ x) × (x ≤ n) × (member x used ≡ false)) (sym (ap (λ x. unwrap_or x 0) is)) (f.least, f.most, f.free)
