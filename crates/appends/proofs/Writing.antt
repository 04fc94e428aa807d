-- What is left of the line writes of elements after some of them.
use Rattle.std.proofs.Common.{◌≡◌, ℕ, ◌+◌, ◌<◌, ◌≤◌, List, [], ◌∷◌, length, get_or, drop, arith}
use Rattle.std.proofs.lemmas.List.{drop_more, drop_all}
use Rattle.leaves.specs.Layout.{slot_at}
use Rattle.writes.specs.Writes.{row}
use Rattle.appends.specs.Append.{signed, words_of, slot_lines}

module _ (k s : ℕ) (w : ℕ × ℕ) (xs : List (ℕ × ℕ)) (i : ℕ) where
  pub slots_none : length xs ≤ i → slot_lines k (s + i) w (drop i xs) ≡ []
  slots_none h = rw (drop_all i xs h)

  pub slots_more : (d : ℕ × ℕ) (at : ℕ) → i < length xs → at ≡ slot_at k (s + i)
      → slot_lines k (s + i) w (drop i xs) ≡ row at (words_of (signed w (get_or xs i d))) ∷ slot_lines k (s + (i + 1)) w (drop (i + 1) xs)
  slots_more d at h here = let e : s + i + 1 ≡ s + (i + 1) = omega arith in let m = drop_more xs i d h in cc
