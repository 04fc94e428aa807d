-- What each word of a logbook is.
use Rattle.std.specs.Prelude.{◌≡◌, ℕ, ◌+◌, ◌*◌, ◌<◌, ◌≤◌, ◌⊎◌}
use Rattle.leaves.specs.Layout.{leaf_at, slot_at}
use Rattle.opened.specs.declared.parts.Part.{Part}
use Rattle.opened.specs.declared.parts.Part.TheVariants.{Mark, Code, FirstLeaf, LeafCount, Next, Count, Form, Sign, KeyFirst, KeySecond, Reading, NotUsed}

-- Word i of leaf k, counted from the leaf's first, and of its slot s, counted from the slot's first.
abbrev pub OfLeaf : ℕ → ℕ → ℕ → ℕ → Type 0
OfLeaf n at k i = (1 ≤ k) × (k ≤ n) × (at ≡ leaf_at k + i)

abbrev pub OfSlot : ℕ → ℕ → ℕ → ℕ → ℕ → Type 0
OfSlot n at k s i = (1 ≤ k) × (k ≤ n) × (s < 16) × (at ≡ slot_at k s + i)

-- In a logbook of n leaves.
abbrev pub IsPart : ℕ → ℕ → Part → Type 0
IsPart n at Mark = at ≡ 0
IsPart n at Code = at ≡ 1
IsPart n at FirstLeaf = at ≡ 2
IsPart n at LeafCount = at ≡ 3
IsPart n at (Next k) = OfLeaf n at k 0
IsPart n at (Count k) = OfLeaf n at k 1
IsPart n at (Form k) = OfLeaf n at k 2
IsPart n at (Sign k s) = OfSlot n at k s 0
IsPart n at (KeyFirst k s) = OfSlot n at k s 1
IsPart n at (KeySecond k s) = OfSlot n at k s 2
IsPart n at (Reading k s) = OfSlot n at k s 3
IsPart n at NotUsed = ((4 ≤ at) × (at < 8)) ⊎ ((8 + 72 * n ≤ at) ⊎ ((k : ℕ) × (leaf_at k + 3 ≤ at) × (at < leaf_at k + 8)))
