-- Histories: what happens to a logbook and its memory, one event after the other.
use Rattle.std.specs.Prelude.{◌≡◌, ℕ, Bool, true, List, [], ◌∷◌}
use Rattle.keys.specs.InWords.{WordKind}
use Rattle.memory.specs.Meaning.{Power, picked}
use Rattle.writes.specs.Laws.{Cut}
use Rattle.turns.specs.Turns.{settled_on}
use Rattle.plans.specs.declared.deed.Deed.{Deed}
use Rattle.plans.specs.Deeds.{key_of}
use Rattle.plans.specs.Told.{Choice}
use Rattle.histories.specs.PlainBook.{Ending, Question, Reply}
use Rattle.histories.specs.Outcome.{State, Answer, outcome, reply, opened}

-- A call, its answer and how it ended; a question and its reply; a cut, the words that it left and the power from then on.
pub data Event : Type 0 where
  called : Deed → Answer → Ending → Event
  asked : Question → Reply → Event
  cut : List ℕ → Power → Event

-- What may happen: a call of a key and a question, answered by the rules; a cut, with any mix of live and firm words, and any power.
abbrev pub Happens : Choice → WordKind → State → Event → Type 0
Happens choose o s (called d a e) = (o.valid (key_of d) ≡ true) × (a ≡ (outcome choose o s d).answer) × (e ≡ (outcome choose o s d).ending)
Happens choose o s (asked q r) = r ≡ reply o s q
Happens choose o s (cut words power) = Cut s.memory words

-- The state after it. At a cut a new logbook is opened on the words that are left.
abbrev pub after : Choice → WordKind → State → Event → State
after choose o s (called d a e) = (outcome choose o s d).state
after choose o s (asked q r) = s
after choose o s (cut words power) = record { memory = settled_on s.memory words power; logbook = opened o words }

-- Events one after the other, each as it may happen in the state after those before it.
abbrev pub History : Choice → WordKind → State → List Event → Type 0
History choose o s [] = Unit {0}
History choose o s (e ∷ es) = Happens choose o s e × History choose o (after choose o s e) es

-- The state after all of them.
abbrev pub reached : Choice → WordKind → State → List Event → State
reached choose o s [] = s
reached choose o s (e ∷ es) = reached choose o (after choose o s e) es

-- What is asked for: a call, a question, or a cut that keeps the live word where its test says so, else the firm one.
pub data Act : Type 0 where
  call : Deed → Act
  ask : Question → Act
  cut_power : (ℕ → Bool) → Power → Act

-- The calls are of keys.
abbrev pub Keyed : WordKind → List Act → Type 0
Keyed o [] = Unit {0}
Keyed o (call d ∷ acts) = (o.valid (key_of d) ≡ true) × Keyed o acts
Keyed o (ask q ∷ acts) = Keyed o acts
Keyed o (cut_power keeps power ∷ acts) = Keyed o acts

-- What comes of it.
abbrev pub event : Choice → WordKind → State → Act → Event
event choose o s (call d) = called d (outcome choose o s d).answer (outcome choose o s d).ending
event choose o s (ask q) = asked q (reply o s q)
event choose o s (cut_power keeps power) = cut (picked keeps s.memory.live s.memory.firm) power

-- One event for each act.
abbrev pub played : Choice → WordKind → State → List Act → List Event
played choose o s [] = []
played choose o s (a ∷ acts) = event choose o s a ∷ played choose o (after choose o s (event choose o s a)) acts

-- Every list of calls, questions and cuts has a history, in every state.
abbrev pub EveryList : Type 0
EveryList = (choose : Choice) (o : WordKind) (s : State) (acts : List Act) → Keyed o acts → History choose o s (played choose o s acts)
