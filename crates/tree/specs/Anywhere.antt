-- What a put, change or remove answers and leaves whatever its memory's words are: also where they were changed past the logbook, and fit the index
-- no more.
use Rattle.std.specs.Prelude.{◌≡◌, ℕ, ◌≤◌, ◌⊎◌, List, Ok, Err, Option, Result}
use Rattle.refusal.specs.declared.Refusal.{Refusal}
use Rattle.refusal.specs.declared.Refusal.TheVariants.{NoPower, Blank as NotOpened}
use Rattle.memory.specs.Meaning.{Words, size_of}
use Rattle.writes.specs.Writes.{Answer, LineWrite, Proper, fall, outcome, perform}
use Rattle.writes.specs.Laws.{Enough}
use Rattle.index.specs.declared.node.Entry.{Entry}
use Rattle.tree.specs.declared.logbook.carry.Halt.{Halt}
use Rattle.tree.specs.declared.logbook.turn.Removed.{Removed}
use Rattle.tree.specs.declared.logbook.State.{State}
use Rattle.tree.specs.declared.logbook.State.TheVariants.{Blank, Open, Dark}
use Rattle.tree.specs.Calls.{FromMemory}
use Rattle.tree.specs.Halting.{steps_of}
use Rattle.tree.specs.Shape.{dark, groups, shape_of}
use Rattle.tree.specs.Turning.{Ending}

abbrev pub IsOpen : State → Type 0
IsOpen Blank = ⊥
IsOpen (Open x) = Unit {0}
IsOpen Dark = ⊥

-- Line writes within the memory, made in turn until the first refusal: the steps that were granted, how it ended, and the memory after.
pub record Ran (m : Words) (steps : ℕ) (ended : Answer) (after : Words) : Type 0 where
  pub lines : List LineWrite
  pub proper : Proper (size_of m) lines
  pub run : outcome after steps ended ≡ perform m lines

-- So many steps were left, and are taken.
pub record Spent (m : Words) (steps : ℕ) (after : Words) : Type 0 where
  pub had : Enough m.power steps
  pub power : after.power ≡ fall m.power steps

-- Granted: the logbook was open and is, and the memory granted every step.
pub record Granted (m : Words) (s : State) (steps : ℕ) (e : Ending) : Type 0 where
  pub was : IsOpen s
  pub stays : (gs : List (List Entry)) × (e.shape ≡ groups gs)
  pub ran : Ran m steps (Ok tt) e.memory

-- Refused by the memory, for its power or for an unsettled word: the logbook was open and is dark.
pub record Stopped (m : Words) (s : State) (last : Option ℕ) (h : Halt) (e : Ending) : Type 0 where
  pub was : IsOpen s
  pub refusal : FromMemory h.refusal
  pub shape : e.shape ≡ dark
  pub taken : e.taken ≡ last
  pub ran : Ran m h.steps (Err h.refusal) e.memory

-- What a logbook refuses of itself: all where it is blank or dark; where it is open never with a refusal of the memory.
abbrev pub OwnRefusal : State → Refusal → Type 0
OwnRefusal Blank e = e ≡ NotOpened
OwnRefusal (Open x) e = FromMemory e → ⊥
OwnRefusal Dark e = e ≡ NoPower

-- Refused by the logbook: all is as it was.
pub record Declined (m : Words) (s : State) (last : Option ℕ) (h : Halt) (e : Ending) : Type 0 where
  pub own : OwnRefusal s h.refusal
  pub steps : h.steps ≡ 0
  pub memory : e.memory ≡ m
  pub shape : e.shape ≡ shape_of s
  pub taken : e.taken ≡ last

-- A call is granted, or refused by the memory or by the logbook. The steps told are those that the memory granted, never more than 87.
pub record Answered (m : Words) (s : State) (last : Option ℕ) (e : Ending) : Type 0 where
  pub spent : Spent m (steps_of e.answer) e.memory
  pub few : steps_of e.answer ≤ 87
  pub granted : (steps : ℕ) → e.answer ≡ Ok steps → Granted m s steps e
  pub refused : (h : Halt) → e.answer ≡ Err h → Stopped m s last h e ⊎ Declined m s last h e

-- The steps that a remove tells.
abbrev pub removed_steps : Result Removed Halt → Result ℕ Halt
removed_steps (Ok r) = Ok r.steps
removed_steps (Err h) = Err h
