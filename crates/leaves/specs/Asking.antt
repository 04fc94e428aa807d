-- What can be asked of one leaf, for every content of the memory.
use Rattle.std.specs.Prelude.{ℕ, ◌+◌, ◌*◌, cond, ◌||◌, List, length, Ok, Err, Result, nat_lt}
use Rattle.refusal.specs.declared.Refusal.{Refusal}
use Rattle.refusal.specs.declared.Refusal.TheVariants.{Outside, BadLeaf}
use Rattle.fixed_vec.specs.declared.FixedVec.{FixedVec}
use Rattle.fixed_vec.specs.Items.{items}
use Rattle.leaves.specs.declared.leaf.Element.{Element}
use Rattle.leaves.specs.declared.leaf.Seen.{Seen}
use Rattle.leaves.specs.Layout.{count_of, elements}
use Rattle.leaves.specs.Pairs.{latest}

-- The count of leaf k, if the leaf is one of 1 to 64 within the memory and counts at most 16 slots.
abbrev pub count_answer : List ℕ → ℕ → Result ℕ Refusal
count_answer m k =
    cond (nat_lt k 1 || nat_lt 64 k || nat_lt (length m) (8 + 72 * k)) (Err Outside)
    (cond (nat_lt 16 (count_of m k)) (Err BadLeaf) (Ok (count_of m k)))

-- What is said of the counted slots, if there are such.
abbrev pub granted : {X : Type 0} → Result ℕ Refusal → (ℕ → X) → Result X Refusal
granted (Ok n) say = Ok (say n)
granted (Err e) say = Err e

abbrev pub counted : {X : Type 0} → List ℕ → ℕ → (ℕ → X) → Result X Refusal
counted m k say = granted (count_answer m k) say

-- An answer with elements as a list.
abbrev pub elements_told : Result (FixedVec Element 16) Refusal → Result (List Element) Refusal
elements_told (Ok es) = Ok (items es)
elements_told (Err e) = Err e

-- What n counted slots of leaf k say of a key.
abbrev pub seen : List ℕ → ℕ → ℕ × ℕ → ℕ → Seen
seen m k w n = record { count = n; held = latest w (elements m k n) }
