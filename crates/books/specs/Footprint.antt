-- The words that a book rests on.
use Rattle.std.specs.Prelude.{◌≡◌, ℕ, ◌+◌, ◌-◌, Bool, false, ◌&&◌, ◌||◌, T, List, [], ◌∷◌, length, nat_le, nat_lt, slice_index}
use Rattle.keys.specs.InWords.{WordKind}
use Rattle.leaves.specs.declared.leaf.Pair.{Pair}
use Rattle.leaves.specs.Layout.{word, leaf_at, slot_at, count_of}
use Rattle.leaves.specs.Opening.{open_answer}
use Rattle.leaves.specs.Ascent.{chain, all_pairs}

-- The leaves that the first link leads to.
abbrev pub linked : List ℕ → List ℕ
linked m = chain m (word m 3 - 1) (word m 2)

-- The pairs of the linked leaves, one leaf after the other.
abbrev pub book : WordKind → List ℕ → List Pair
book o m = all_pairs o m (linked m)

-- Next, count, form and the counted slots of leaf k.
abbrev pub in_leaf : List ℕ → ℕ → ℕ → Bool
in_leaf m k i = (nat_le (leaf_at k) i && nat_lt i (leaf_at k + 3)) || (nat_le (slot_at k 0) i && nat_lt i (slot_at k (count_of m k)))

-- Those of some leaves.
abbrev pub in_leaves : List ℕ → List ℕ → ℕ → Bool
in_leaves m [] i = false
in_leaves m (k ∷ ks) i = in_leaf m k i || in_leaves m ks i

-- The head and those of the linked leaves.
abbrev pub footprint : List ℕ → ℕ → Bool
footprint m i = nat_lt i 4 || in_leaves m (linked m) i

-- The same words at the places of a set.
abbrev pub Alike : (ℕ → Bool) → List ℕ → List ℕ → Type 0
Alike F a b = (length a ≡ length b) × ((i : ℕ) → T (F i) → slice_index a i ≡ slice_index b i)

-- Words alike on the footprint open alike, to the same book.
abbrev pub Depends : Type 0
Depends = (o : WordKind) (m words : List ℕ) → Alike (footprint m) words m → (open_answer o words ≡ open_answer o m) × (book o words ≡ book o m)
