-- Where words, leaves and elements lie in a memory.
use Rattle.std.specs.Prelude.{ℕ, ◌+◌, ◌-◌, ◌*◌, ◌≤◌, List, map, length, slice_index}
use Rattle.std.specs.List.{range_with_len}
use Rattle.leaves.specs.declared.leaf.Element.{Element}

-- The word at an index; 0 where there is none.
abbrev pub word : List ℕ → ℕ → ℕ
word m i = slice_index m i

-- The first word of leaf k, from 1: its next leaf.
abbrev pub leaf_at : ℕ → ℕ
leaf_at k = 8 + 72 * (k - 1)

-- A leaf's own three words: the next leaf, the count of its elements, the form.
abbrev pub next_of : List ℕ → ℕ → ℕ
next_of m k = word m (leaf_at k)

abbrev pub count_of : List ℕ → ℕ → ℕ
count_of m k = word m (leaf_at k + 1)

abbrev pub form_of : List ℕ → ℕ → ℕ
form_of m k = word m (leaf_at k + 2)

-- The first word of slot s of leaf k, from 0.
abbrev pub slot_at : ℕ → ℕ → ℕ
slot_at k s = leaf_at k + 8 + 4 * s

-- Leaf k lies within the memory.
abbrev pub Within : List ℕ → ℕ → Type 0
Within m k = (1 ≤ k) × (k ≤ 64) × (8 + 72 * k ≤ length m)

-- The element in slot s of leaf k.
abbrev pub element : List ℕ → ℕ → ℕ → Element
element m k s = record {
  sign = word m (slot_at k s);
  key = (word m (slot_at k s + 1), word m (slot_at k s + 2));
  reading = word m (slot_at k s + 3);
}

-- The n oldest elements of leaf k.
abbrev pub elements : List ℕ → ℕ → ℕ → List Element
elements m k n = map (element m k) (range_with_len 0 n)
