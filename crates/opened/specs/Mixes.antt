-- The mixes that a cut may leave, by number.
use Rattle.std.specs.Prelude.{◌≡◌, ℕ, ◌+◌, ◌/◌, ◌%◌, ◌<◌, Bool, true, false, cond, not, ◌&&◌, List, [], ◌∷◌, length, nat_lt, ◌==◌, slice_index}
use Rattle.memory.specs.Meaning.{odd_at}

-- How many words are unsettled: live and firm word differ.
abbrev pub unsettled : List ℕ → List ℕ → ℕ
unsettled [] ys = 0
unsettled (x ∷ xs) [] = 0
unsettled (x ∷ xs) (y ∷ ys) = cond (x == y) 0 1 + unsettled xs ys

-- Whether word i is unsettled; a word that there is not is settled.
abbrev pub unsettled_at : List ℕ → List ℕ → ℕ → Bool
unsettled_at live firm i = nat_lt i (length live) && nat_lt i (length firm) && not (slice_index live i == slice_index firm i)

-- The choice of a word and the digits that are left for the words after it: an unsettled word takes the last digit.
abbrev pub next_digit : Bool → ℕ → ℕ × ℕ
next_digit true k = (k % 2, k / 2)
next_digit false k = (0, k)

-- The choices of mix k: the unsettled words take the digits of k to base 2, the lowest word the last digit; settled words take 0.
abbrev pub mix_of : ℕ → List ℕ → List ℕ → List ℕ
mix_of k [] ys = []
mix_of k (x ∷ xs) [] = 0 ∷ mix_of k xs []
mix_of k (x ∷ xs) (y ∷ ys) = cond (x == y) (0 ∷ mix_of k xs ys) (k % 2 ∷ mix_of (k / 2) xs ys)

-- However a cut keeps live and firm words, there is a mix among the first so many that keeps the same.
abbrev pub EveryMix : List ℕ → List ℕ → ℕ → Type 0
EveryMix live firm many =
    length live ≡ length firm → (keeps : ℕ → Bool) → (k : ℕ) × (k < many)
    × ((i : ℕ) → i < length live
    → cond (odd_at (mix_of k live firm) i) (slice_index live i) (slice_index firm i) ≡ cond (keeps i) (slice_index live i) (slice_index firm i))
