-- Which of a list of bounds a key belongs to, and the same by groups.
use Rattle.std.specs.Prelude.{◌≡◌, ℕ, zero, suc, ◌+◌, ◌<◌, ◌≤◌, true, false, cond, List, [], ◌∷◌, ◌++◌, length, slice_index_or}
use Rattle.keys.specs.InWords.{WordKind}

-- The place of the first bound that is not before the key, otherwise of the last.
abbrev pub search : WordKind → ℕ × ℕ → List (ℕ × ℕ) → ℕ
search o key [] = 0
search o key (b ∷ []) = 0
search o key (b ∷ c ∷ bs) = cond (o.before b key) (suc (search o key (c ∷ bs))) 0

-- The last bound.
abbrev pub last : List (ℕ × ℕ) → ℕ × ℕ
last [] = (0, 0)
last (b ∷ []) = b
last (b ∷ c ∷ bs) = last (c ∷ bs)

-- All but the last.
abbrev pub front : List (ℕ × ℕ) → List (ℕ × ℕ)
front [] = []
front (b ∷ []) = []
front (b ∷ c ∷ bs) = b ∷ front (c ∷ bs)

-- The groups one after the other.
abbrev pub concat : {X : Type 0} → List (List X) → List X
concat [] = []
concat (g ∷ gs) = g ++ concat gs

-- How many stand in the first g groups.
abbrev pub offset : {X : Type 0} → List (List X) → ℕ → ℕ
offset [] g = 0
offset (x ∷ gs) zero = 0
offset (x ∷ gs) (suc g) = length x + offset gs g

-- Each bound is before all that follow it.
abbrev pub Above : WordKind → ℕ × ℕ → List (ℕ × ℕ) → Type 0
Above o b [] = Unit {0}
Above o b (c ∷ bs) = (o.before b c ≡ true) × Above o b bs

-- The bounds rise.
abbrev pub Ascending : WordKind → List (ℕ × ℕ) → Type 0
Ascending o [] = Unit {0}
Ascending o (b ∷ bs) = Above o b bs × Ascending o bs

-- No group is empty.
abbrev pub Full : {X : Type 0} → List (List X) → Type 0
Full gs = (g : ℕ) → g < length gs → 0 < length (slice_index_or gs g [])

-- No group has more than five.
abbrev pub Small : {X : Type 0} → List (List X) → Type 0
Small gs = (g : ℕ) → g < length gs → length (slice_index_or gs g []) ≤ 5

-- A place is the first whose bound is not before the key, otherwise the last.
abbrev pub First : WordKind → ℕ × ℕ → List (ℕ × ℕ) → ℕ → Type 0
First o key bs p =
    (p < length bs)
    × ((i : ℕ) → i < p → o.before (slice_index_or bs i (0, 0)) key ≡ true)
    × (p + 1 < length bs → o.before (slice_index_or bs p (0, 0)) key ≡ false)

abbrev pub FindsFirst : Type 0
FindsFirst = (o : WordKind) (key : ℕ × ℕ) (bs : List (ℕ × ℕ)) → 0 < length bs → First o key bs (search o key bs)

-- The one place at which a key belongs is where the search comes to.
abbrev pub FindsOnly : Type 0
FindsOnly = (o : WordKind) (key : ℕ × ℕ) (bs : List (ℕ × ℕ)) (p : ℕ) → First o key bs p → search o key bs ≡ p
