-- What is told of the answers of a logbook's calls.
use Rattle.std.specs.Prelude.{◌≡◌, ℕ, Ok, Err, Result, nat_lt}
use Rattle.refusal.specs.declared.Refusal.{Refusal}
use Rattle.refusal.specs.declared.Refusal.TheVariants.{NoPower, Blank as NotOpened}
use Rattle.leaves.specs.declared.leaf.Pair.{Pair}
use Rattle.leaves.specs.declared.open.Fault.{Fault}
use Rattle.index.specs.Meaning.{grouped}
use Rattle.tree.specs.declared.logbook.State.{State}
use Rattle.tree.specs.declared.logbook.State.TheVariants.{Blank, Open, Dark}
use Rattle.tree.specs.declared.logbook.carry.Halt.{Halt}
use Rattle.tree.specs.declared.logbook.turn.Removed.{Removed}
use Rattle.session.specs.declared.act.Told.{Told}
use Rattle.session.specs.declared.act.Told.TheVariants as told
use Rattle.session.specs.Playing.{NodeShown}

abbrev pub heard_steps : Result ℕ Halt → Told
heard_steps (Ok n) = told.Steps n
heard_steps (Err h) = told.Halted h.refusal h.steps

abbrev pub heard_removed : Result Removed Halt → Told
heard_removed (Ok r) = told.Removed r.reading r.steps
heard_removed (Err h) = told.Halted h.refusal h.steps

abbrev pub heard_found : Result ℕ Refusal → Told
heard_found (Ok r) = told.Reading r
heard_found (Err e) = told.Refused e

abbrev pub heard_next : Result Pair Refusal → Told
heard_next (Ok p) = told.Next p
heard_next (Err e) = told.Refused e

abbrev pub heard_number : Result ℕ Refusal → Told
heard_number (Ok n) = told.Number n
heard_number (Err e) = told.Refused e

abbrev pub heard_opened : Result (Unit {0}) Fault → Told
heard_opened (Ok _) = told.Opened
heard_opened (Err e) = told.NotOpened e

abbrev pub heard_cut : Result (Result (Unit {0}) Fault) Refusal → Told
heard_cut (Ok r) = heard_opened r
heard_cut (Err e) = told.Refused e

-- What is told of node i.
abbrev pub NodeHeard : State → ℕ → Told → Type 0
NodeHeard Blank i t = t ≡ told.Refused NotOpened
NodeHeard (Open x) i t = NodeShown (nat_lt 90 i) (grouped x) i t
NodeHeard Dark i t = t ≡ told.Refused NoPower
