-- Places of leaves and their numbers.
use Rattle.std.proofs.Common.{◌≡◌, ℕ, zero, suc, ◌+◌, ◌-◌, ◌<◌, ◌≤◌, true, false, ◌&&◌, ltb, List, [], ◌∷◌, length, get_or, is_some, Some, None, Option, sym, refl, ap, ◌∙◌, subst, ⊎_elim, arith, length-append}
use Rattle.std.proofs.lemmas.Bool.{cond-true, cond-false, le-ltb, lt-ltb, ltb-true, cases_lt, cases_Bool, and_parts, and_from, true≢false}
use Rattle.index.specs.declared.node.Entry.{Entry}
use Rattle.index.specs.declared.table.Place.{Place}
use Rattle.index.specs.Search.{concat, offset, Full}
use Rattle.index.specs.Places.{within, group_of, position, moved, place_at, place_after, place_before, Placed, Numbered, EveryNumber}

abbrev pub Within : List (List Entry) → Place → Type 0
Within gs p = (p.group < length gs) × (p.slot < length (group_of gs p))

abbrev at : ℕ → ℕ → Place
at g s = record { group = g; slot = s }

module _ (gs : List (List Entry)) (p : Place) where
  pub within_parts : within gs p ≡ true → Within gs p
  within_parts t =
      let h = and_parts (ltb p.group (length gs)) (ltb p.slot (length (group_of gs p))) t in
      (ltb-true _ _ h.0, ltb-true _ _ h.1)

  pub within_of : Within gs p → within gs p ≡ true
  within_of w = and_from _ _ (lt-ltb _ _ w.0) (lt-ltb _ _ w.1)

  pub in_its_group : {n : ℕ} → p.group < length gs → n ≡ length (group_of gs p) → ltb p.slot n ≡ within gs p
  in_its_group h e = ap (ltb p.slot) e ∙ ap (λ b. b && ltb p.slot (length (group_of gs p))) (sym (lt-ltb _ _ h))

found_at : (gs : List (List Entry)) (g s : ℕ) → g < length gs → s < length (get_or gs g []) → place_at gs (offset gs g + s) ≡ Some (at g s)
found_at [] g s h k = absurd (omega arith)
found_at (x ∷ gs) zero s h k = let z : 0 + s ≡ s = omega arith in rw z (cond-true _ _ _ (lt-ltb s (length x) k))
found_at (x ∷ gs) (suc g) s h k =
    let n = length x + offset gs g + s in
    let z : n - length x ≡ offset gs g + s = omega arith in
    cond-false _ _ _ (le-ltb n (length x) (omega arith)) ∙ ap (λ m. moved (place_at gs m)) z ∙ ap moved (found_at gs g s (omega arith) k)

pub placed : Placed
placed gs p t = let w = within_parts gs p t in found_at gs p.group p.slot w.0 w.1

told_at : (gs : List (List Entry)) (p : Place) {n : ℕ} → Within gs p → position gs p ≡ n → Some p ≡ place_at gs n
told_at gs p w e = sym (found_at gs p.group p.slot w.0 w.1) ∙ ap (place_at gs) e

none_some : {X : Type 0} {x : X} {Y : Type 0} → None ≡ Some x → Y
none_some e = let z : ◌≡◌ {A = ℕ} 0 1 = cc in absurd (omega arith)

moved_from : (o : Option Place) (p : Place) → moved o ≡ Some p → (q : Place) × ((o ≡ Some q) × (at (suc q.group) q.slot ≡ p))
moved_from None p e = none_some e
moved_from (Some q) p e = (q, (refl, cc))

number_at : (gs : List (List Entry)) (n : ℕ) (p : Place) → place_at gs n ≡ Some p → Within gs p × (position gs p ≡ n)
number_at [] n p e = none_some e
number_at (g ∷ gs) n p e =
    let P : Place → Type 0 = λ q. Within (g ∷ gs) q × (position (g ∷ gs) q ≡ n) in
    ⊎_elim
    (λ h. let is : at 0 n ≡ p = let s = sym (cond-true (ltb n (length g)) (Some (at 0 n)) _ (lt-ltb n (length g) h)) ∙ e in cc in subst P is ((omega arith, h), omega arith))
    (λ h.
    let m = moved_from (place_at gs (n - length g)) p (sym (cond-false (ltb n (length g)) (Some (at 0 n)) _ (le-ltb n (length g) h)) ∙ e) in
    let more = number_at gs (n - length g) m.0 m.1.0 in
    subst P m.1.1 ((omega (arith, more.0.0), more.0.1), omega (arith, more.1)))
    (cases_lt n (length g))

pub numbered : Numbered
numbered gs n p e = let w = number_at gs n p e in (within_of gs p w.0, w.1)

some_moved : (o : Option Place) → is_some (moved o) ≡ is_some o
some_moved None = refl
some_moved (Some p) = refl

less_rest : (n m k : ℕ) → m ≤ n → ltb (n - m) k ≡ ltb n (m + k)
less_rest n m k h =
    ⊎_elim (λ l. lt-ltb (n - m) k l ∙ sym (lt-ltb n (m + k) (omega arith)))
    (λ l. le-ltb (n - m) k l ∙ sym (le-ltb n (m + k) (omega arith)))
    (cases_lt (n - m) k)

pub every_number : EveryNumber
every_number [] n = sym (le-ltb n 0 (omega arith))
every_number (g ∷ gs) n =
    rw length-append
    (⊎_elim
    (λ h. ap is_some (cond-true _ _ _ (lt-ltb n (length g) h)) ∙ sym (lt-ltb n (length g + length (concat gs)) (omega arith)))
    (λ h. ap is_some (cond-false _ _ _ (le-ltb n (length g) h)) ∙ some_moved (place_at gs (n - length g)) ∙ every_number gs (n - length g) ∙ less_rest n (length g) (length (concat gs)) h)
    (cases_lt n (length g)))

none_of : (o : Option Place) → is_some o ≡ false → None ≡ o
none_of None e = refl
none_of (Some p) e = absurd (true≢false e)

none_at : (gs : List (List Entry)) (n : ℕ) → length (concat gs) ≤ n → None ≡ place_at gs n
none_at gs n h = none_of (place_at gs n) (every_number gs n ∙ le-ltb n (length (concat gs)) h)

-- The places beside one that is there.
module _ (gs : List (List Entry)) (p : Place) (w : Within gs p) where
  pub told_after : (q : Place) → Within gs q → position gs q ≡ position gs p + 1 → Some q ≡ place_after gs p
  told_after q v e = told_at gs q v e ∙ sym (cond-true _ _ _ (within_of gs p w))

  pub none_after : length (concat gs) ≤ position gs p + 1 → None ≡ place_after gs p
  none_after h = none_at gs (position gs p + 1) h ∙ sym (cond-true _ _ _ (within_of gs p w))

  pub told_before : (q : Place) → Within gs q → position gs q + 1 ≡ position gs p → Some q ≡ place_before gs p
  told_before q v e = told_at gs q v (omega arith) ∙ sym (cond-true _ _ _ (lt-ltb 0 (position gs p) (omega arith))) ∙ sym (cond-true _ _ _ (within_of gs p w))

-- Two places, the second after the first.
pub after_parts : (gs : List (List Entry)) (p q : Place) → place_after gs p ≡ Some q → Within gs p × Within gs q × (position gs q ≡ position gs p + 1)
after_parts gs p q e =
    ⊎_elim
    (λ t. let n = number_at gs (position gs p + 1) q (sym (cond-true _ _ _ t) ∙ e) in (within_parts gs p t, n.0, n.1))
    (λ f. none_some (sym (cond-false _ _ _ f) ∙ e))
    (cases_Bool (within gs p))

-- The place of the first leaf.
pub first_within : (gs : List (List Entry)) → 0 < length gs → Full gs → within gs (at 0 0) ≡ true
first_within gs some full = within_of gs (at 0 0) (some, full 0 some)

pub first_position : (gs : List (List Entry)) → position gs (at 0 0) ≡ 0
first_position [] = refl
first_position (g ∷ gs) = refl
