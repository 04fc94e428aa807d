-- Which free leaf is taken next.
use Rattle.std.specs.Prelude.{◌≡◌, ℕ, ◌+◌, ◌-◌, ◌<◌, ◌≤◌, min, true, false, not, List, ◌∷◌, ◌++◌, length, Some, Option}
use Rattle.std.specs.List.{find, range_with_len}
use Rattle.std.specs.Option.{unwrap_or}
use Rattle.leaves.specs.Opening.{member}

-- The leaves after one, up to another.
abbrev pub leaves_after : ℕ → ℕ → List ℕ
leaves_after low high = range_with_len (low + 1) (high - low)

-- Of n leaves, in the order in which they are tried: from the one taken last on, and round up to it again; where none was taken, from 1 on.
abbrev pub candidates : ℕ → Option ℕ → List ℕ
candidates n last = leaves_after (unwrap_or last 0) n ++ leaves_after 0 (min (unwrap_or last 0) n)

-- The first candidate that is not used.
abbrev pub free_leaf : ℕ → List ℕ → Option ℕ → Option ℕ
free_leaf n used last = find (λ k. not (member k used)) (candidates n last)

-- Leaf k is one of the n, it is not used, and every candidate before it is.
pub record NextFree (n : ℕ) (used : List ℕ) (last : Option ℕ) (k : ℕ) : Type 0 where
  pub least : 1 ≤ k
  pub most : k ≤ n
  pub free : member k used ≡ false
  pub before : List ℕ
  pub after : List ℕ
  pub order : candidates n last ≡ before ++ k ∷ after
  pub passed : (j : ℕ) → member j before ≡ true → member j used ≡ true

abbrev pub TakesFree : Type 0
TakesFree = (n : ℕ) (used : List ℕ) (last : Option ℕ) (k : ℕ) → free_leaf n used last ≡ Some k → NextFree n used last k

-- While fewer are used than there are, one is free and is found.
abbrev pub AlwaysFree : Type 0
AlwaysFree = (n : ℕ) (used : List ℕ) (last : Option ℕ) → length used < n → (k : ℕ) × (free_leaf n used last ≡ Some k)

-- The candidates are all leaves and no others.
abbrev pub AllCandidates : Type 0
AllCandidates = (n : ℕ) (last : Option ℕ) (k : ℕ) → (1 ≤ k → k ≤ n → member k (candidates n last) ≡ true) × (member k (candidates n last) ≡ true → (1 ≤ k) × (k ≤ n))
