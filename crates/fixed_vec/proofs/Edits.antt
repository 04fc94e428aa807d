-- A list in the front of an array, after an item is put in or taken out.
use Rattle.std.proofs.Common.{◌≡◌, ℕ, suc, ◌+◌, ◌-◌, ◌<◌, ◌≤◌, min, List, ◌∷◌, ◌++◌, length, take, drop, sym, ap, ◌∙◌, ⊎_elim, append-nil, length-take-le, take-take, take-add, take_all, drop_at, length-append, length-drop, arith}
use native.Mathlib.Nat.{min-eq_left}
use Rattle.std.proofs.Math.ListN.{set}
use Rattle.std.proofs.Math.Seq.{paste, take-set-lt, set_split}
use Rattle.std.proofs.lemmas.List.{drop_all, take-append-le}
use Rattle.std.proofs.lemmas.List.Edits.{take-paste}
use Rattle.std.proofs.lemmas.Bool.{cases_lt}
use Rattle.std.specs.List.{insert, remove, copy_within}

module _ {T : Type 0} (s : List T) where
  drop-take : (k n : ℕ) → k ≤ length s → drop k (take (k + n) s) ≡ take n (drop k s)
  drop-take k n h = ap (drop k) (take-add k n s) ∙ drop_at (take k s) (take n (drop k s)) k (length-take-le k s h)

  set_front : (k : ℕ) (r : List T) (x : T) → k < length s → set (take (suc k) s ++ r) k x ≡ take k s ++ x ∷ r
  set_front k r x h =
      let long = length-take-le (suc k) s h in
      let l = take (suc k) s ++ r in
      let both = length-append (take (suc k) s) r in
      let front : take k l ≡ take k s = take-append-le k (take (suc k) s) r (omega arith) ∙ take-take k (suc k) s (omega arith) in
      let back : drop (suc k) l ≡ r = drop_at (take (suc k) s) r (suc k) long in
      set_split l k x (omega arith) ∙ (λ i. front i ++ x ∷ back i)

  shifted : (k n : ℕ) (x : T) → k + n < length s → take (suc k + n) (set (paste s (suc k) (drop k s) n) k x) ≡ take k s ++ x ∷ take n (drop k s)
  shifted k n x h =
      let rest = length-drop k s in
      take-set-lt (suc k + n) (paste s (suc k) (drop k s) n) k x (omega arith)
      ∙ ap (λ l. set l k x) (take-paste s (suc k) (drop k s) n (omega arith) (omega arith)) ∙ set_front k (take n (drop k s)) x (omega arith)

  at_place : (len at k : ℕ) (x : T) → k ≤ len → len < length s → take at (take len s) ≡ take k s → drop at (take len s) ≡ take (len - k) (drop k s)
      → take (len + 1) (set (copy_within s k len (k + 1)) k x) ≡ insert (take len s) at x
  at_place len at k x le lt front back =
      let one : k + 1 ≡ suc k = omega arith in
      let whole : len + 1 ≡ suc k + (len - k) = omega arith in
      (λ i. take (whole i) (set (paste s (one i) (drop k s) (len - k)) k x)) ∙ shifted k (len - k) x (omega arith) ∙ (λ i. sym front i ++ x ∷ sym back i)

  -- The items from the place on move up by one.
  pub insert_shifts : (len at k : ℕ) (x : T) → k ≡ min at len → len < length s → take (len + 1) (set (copy_within s k len (k + 1)) k x) ≡ insert (take len s) at x
  insert_shifts len at k x is lt =
      ⊎_elim
      (λ below.
      let inside : at ≤ len = omega arith in
      let e : k ≡ at = is ∙ min-eq_left inside in
      let parts : at + (len - at) ≡ len = omega arith in
      at_place len at k x (omega arith) lt (take-take at len s inside ∙ ap (λ n. take n s) (sym e))
      (ap (λ n. drop at (take n s)) (sym parts) ∙ drop-take at (len - at) (omega arith) ∙ (λ i. take (len - sym e i) (drop (sym e i) s))))
      (λ past.
      let e : k ≡ len = omega arith in
      let long = length-take-le len s (omega arith) in
      let none : len - k ≡ 0 = omega arith in
      at_place len at k x (omega arith) lt (take_all at (take len s) (omega arith) ∙ ap (λ n. take n s) (sym e))
      (drop_all at (take len s) (omega arith) ∙ ap (λ n. take n (drop k s)) (sym none)))
      (cases_lt at (len + 1))

  -- The items after the place move down by one.
  pub remove_shifts : (len at : ℕ) → at < len → len ≤ length s → take (len - 1) (copy_within s (at + 1) len at) ≡ remove (take len s) at
  remove_shifts len at lt le =
      let n = len - (at + 1) in
      let one : at + 1 ≡ suc at = omega arith in
      let whole : len - 1 ≡ at + n = omega arith in
      let parts : suc at + n ≡ len = omega arith in
      let rest = length-drop (at + 1) s in
      ap (λ k. take k (copy_within s (at + 1) len at)) whole ∙ take-paste s at (drop (at + 1) s) n (omega arith) (omega arith)
      ∙ (λ i. sym (take-take at len s (omega arith)) i ++ take n (drop (one i) s))
      ∙ ap (λ l. take at (take len s) ++ l) (sym (drop-take (suc at) n (omega arith)) ∙ ap (λ k. drop (suc at) (take k s)) parts)

-- Nothing is taken out past the end.
pub remove_none : {T : Type 0} (xs : List T) (at : ℕ) → length xs ≤ at → xs ≡ remove xs at
remove_none xs at h = sym (append-nil xs) ∙ (λ i. sym (take_all at xs h) i ++ sym (drop_all (suc at) xs (omega arith)) i)
