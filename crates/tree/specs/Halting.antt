-- How a call's line writes end, and what becomes of the logbook's state.
use Rattle.std.specs.Prelude.{ℕ, Ok, Err, Result}
use Rattle.refusal.specs.declared.Refusal.{Refusal}
use Rattle.writes.specs.Writes.{Answer}
use Rattle.tree.specs.declared.logbook.carry.Halt.{Halt}
use Rattle.tree.specs.declared.logbook.State.{State}
use Rattle.tree.specs.declared.logbook.State.TheVariants.{Dark}

abbrev pub halted : Refusal → ℕ → Halt
halted e n = record { refusal = e; steps = n }

-- The steps that are told, granted or not.
abbrev pub steps_of : Result ℕ Halt → ℕ
steps_of (Ok n) = n
steps_of (Err h) = h.steps

abbrev pub ended : Result ℕ Halt → Answer
ended (Ok n) = Ok tt
ended (Err h) = Err h.refusal

-- A refusal of the memory makes the logbook dark.
abbrev pub state_after : State → Answer → State
state_after s (Ok _) = s
state_after s (Err e) = Dark
