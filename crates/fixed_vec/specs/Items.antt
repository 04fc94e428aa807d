-- The items of a list in an array, and what there is room for.
use Rattle.std.specs.Prelude.{ℕ, ◌+◌, cond, List, ◌++◌, length, take, Ok, Err, Result, nat_le}
use Rattle.std.specs.List.{insert}
use Rattle.fixed_vec.specs.declared.FixedVec.{FixedVec}
use Rattle.fixed_vec.specs.declared.list.Full.{Full}

abbrev pub items : {T : Type 0} {N : ℕ} → FixedVec T N → List T
items v = take v.len v.slots

-- Whether n items hold a list and more after it.
abbrev pub room : {T : Type 0} → ℕ → List T → List T → Result Unit Full
room n xs more = cond (nat_le (length xs + length more) n) (Ok tt) (Err (record {}))

abbrev pub joined : {T : Type 0} → ℕ → List T → List T → List T
joined n xs more = cond (nat_le (length xs + length more) n) (xs ++ more) xs

-- One item more before the one at a place, or after all where there is none, if n items hold it.
abbrev pub inserted : {T : Type 0} → ℕ → List T → ℕ → T → List T
inserted n xs at x = cond (nat_le (length xs + 1) n) (insert xs at x) xs
