-- What is seen of a make from outside, and what damage makes of it.
use Rattle.std.specs.Prelude.{ℕ, cond, Ok, Err, Some, None, Option, Result, nat_le, slice_set}
use Rattle.refusal.specs.declared.Refusal.{Refusal}
use Rattle.refusal.specs.declared.Refusal.TheVariants.{Outside}
use Rattle.memory.specs.Meaning.{Power, Words, endless, left, renewed, size_of}

abbrev pub counted : Power → Option ℕ
counted endless = None
counted (left n) = Some n

-- The steps left, if they end.
abbrev pub steps_of : Words → Option ℕ
steps_of m = counted m.power

abbrev pub poke_answer : Words → ℕ → Result (Unit {0}) Refusal
poke_answer m i = cond (nat_le (size_of m) i) (Err Outside) (Ok tt)

-- One word new, live and firm; no word where it lies outside.
abbrev pub poked : Words → ℕ → ℕ → Words
poked m i w = record { live = slice_set m.live i w; firm = slice_set m.firm i w; through = m.through; power = m.power; choosing = m.choosing }

-- The steps left set, where they end.
abbrev pub supplied : Words → ℕ → Words
supplied m n = record { live = m.live; firm = m.firm; through = m.through; power = renewed m.power n; choosing = m.choosing }
