-- What is known of every put, change and remove of a sound logbook.
use Rattle.std.specs.Prelude.{◌≡◌, ℕ, ◌<◌, ◌≤◌, true, ◌⊎◌, List, length, Some, Ok, Err, Option, ◌≢◌}
use Rattle.refusal.specs.declared.Refusal.{Refusal}
use Rattle.refusal.specs.declared.Refusal.TheVariants.{NoPower, NoRoom, Unsettled, Blank as NotOpened}
use Rattle.keys.specs.InWords.{WordKind, WordOrdered}
use Rattle.memory.specs.Meaning.{Settled, Words}
use Rattle.writes.specs.Writes.{fall}
use Rattle.writes.specs.Laws.{Enough}
use Rattle.leaves.specs.Layout.{word}
use Rattle.leaves.specs.Pairs.{lookup}
use Rattle.books.specs.Footprint.{book}
use Rattle.plans.specs.declared.deed.Deed.{Deed}
use Rattle.plans.specs.declared.deed.Deed.TheVariants.{Remove}
use Rattle.plans.specs.Deeds.{Declines, Goes, done, key_of}
use Rattle.plans.specs.Room.{ExactlyWhen, LacksRoom, steps_enough}
use Rattle.plans.specs.Told.{by_rule}
use Rattle.index.specs.declared.table.Index.{Index}
use Rattle.index.specs.Meaning.{listed}
use Rattle.tree.specs.declared.logbook.carry.Halt.{Halt}
use Rattle.tree.specs.declared.logbook.State.{State}
use Rattle.tree.specs.declared.logbook.State.TheVariants.{Blank, Open, Dark}
use Rattle.tree.specs.Halting.{halted, steps_of}
use Rattle.tree.specs.Shape.{shape_of}
use Rattle.tree.specs.Sound.{Sound}
use Rattle.tree.specs.Turning.{Ending, call_ending, tree_of}

-- What holds of every call with a key of the kind, on a sound logbook whose leaf taken last is given.
abbrev pub OfCalls : (WordKind → Words → State → Option ℕ → Deed → Ending → Type 0) → Type 0
OfCalls P =
    (o : WordKind) → WordOrdered o → (m : Words) (s : State) (last : Option ℕ) (d : Deed) →
    Sound o m.live s → o.valid (key_of d) ≡ true → P o m s last d (call_ending o m s last d)

-- The logbook is sound after it: a state of the ending's shape fits the ending's words.
abbrev pub SoundAfter : WordKind → Ending → Type 0
SoundAfter o e = (r : State) → shape_of r ≡ e.shape → Sound o e.memory.live r

abbrev pub StaysSound : Type 0
StaysSound = OfCalls (λ o m s last d e. SoundAfter o e)

-- Granted, the book is the one before with the call done.
abbrev pub DoneAfter : WordKind → Words → Deed → Ending → Type 0
DoneAfter o m d e = (steps : ℕ) → e.answer ≡ Ok steps → book o e.memory.live ≡ done o d (book o m.live)

abbrev pub CallDone : Type 0
CallDone = OfCalls (λ o m s last d e. DoneAfter o m d e)

-- A refusal that the memory gives.
abbrev pub FromMemory : Refusal → Type 0
FromMemory e = (e ≡ NoPower) ⊎ (e ≡ Unsettled)

-- Why else a call refuses: the logbook is blank; by what is held of the key; or it has something to do, and no room.
abbrev pub Why : WordKind → List ℕ → State → Option ℕ → Deed → Refusal → Type 0
Why o m Blank last d e = e ≡ NotOpened
Why o m (Open x) last d e =
    Declines d (lookup (key_of d) (book o m)) e
    ⊎ ((e ≡ NoRoom) × Goes d (lookup (key_of d) (book o m)) × LacksRoom by_rule o m (tree_of x last) d)
Why o m Dark last d e = ⊥

-- Refused before the first step: everything is as it was.
pub record Refused (o : WordKind) (m : Words) (s : State) (last : Option ℕ) (d : Deed) (h : Halt) (e : Ending) : Type 0 where
  pub steps : h.steps ≡ 0
  pub memory : e.memory ≡ m
  pub shape : e.shape ≡ shape_of s
  pub taken : e.taken ≡ last
  pub why : Why o m.live s last d h.refusal

-- A refusal is the memory's, or the call's own.
abbrev pub Refuses : Type 0
Refuses = OfCalls (λ o m s last d e. (h : Halt) → e.answer ≡ Err h → FromMemory h.refusal ⊎ Refused o m s last d h e)

-- An open logbook refuses for room exactly where there is something to do and no room, whatever the power.
abbrev pub RoomTold : Type 0
RoomTold =
    (o : WordKind) → WordOrdered o → (m : Words) (x : Index) (last : Option ℕ) (d : Deed) →
    Sound o m.live (Open x) → o.valid (key_of d) ≡ true →
    ExactlyWhen ((call_ending o m (Open x) last d).answer ≡ Err (halted NoRoom 0)) (Goes d (lookup (key_of d) (book o m.live)) × LacksRoom by_rule o m.live (tree_of x last) d)

-- So many steps suffice for a call: none where the logbook is not open.
abbrev pub steps_for : WordKind → List ℕ → State → Option ℕ → Deed → ℕ
steps_for o m Blank last d = 0
steps_for o m (Open x) last d = steps_enough o m (tree_of x last) d
steps_for o m Dark last d = 0

-- On a settled memory a granted call leaves it settled, and a refusal is for want of power or the call's own; where so many steps are left, it is not for power.
pub record Settles (o : WordKind) (m : Words) (s : State) (last : Option ℕ) (d : Deed) (e : Ending) : Type 0 where
  pub granted : (steps : ℕ) → e.answer ≡ Ok steps → Settled e.memory
  pub refused : (h : Halt) → e.answer ≡ Err h → (h.refusal ≡ NoPower) ⊎ Refused o m s last d h e
  pub powered : s ≢ Dark → Enough m.power (steps_for o m.live s last d) → (h : Halt) → e.answer ≡ Err h → Refused o m s last d h e

abbrev pub StaysSettled : Type 0
StaysSettled = OfCalls (λ o m s last d e. Settled m → Settles o m s last d e)

-- No call takes more than 87 steps, and the steps told are those that the memory granted, which were there.
abbrev pub StepsTold : Words → Ending → Type 0
StepsTold m e = (steps_of e.answer ≤ 87) × Enough m.power (steps_of e.answer) × (e.memory.power ≡ fall m.power (steps_of e.answer))

abbrev pub FewSteps : Type 0
FewSteps = OfCalls (λ o m s last d e. StepsTold m e)

-- An ending that is granted, or refused by the memory.
abbrev pub GrantedOrMemory : Ending → Type 0
GrantedOrMemory e = ((steps : ℕ) × (e.answer ≡ Ok steps)) ⊎ ((h : Halt) × (e.answer ≡ Err h) × FromMemory h.refusal)

-- A key that is there can always be removed, unless the memory refuses.
abbrev pub RemoveGoes : Type 0
RemoveGoes =
    (o : WordKind) → WordOrdered o → (m : Words) (x : Index) (last : Option ℕ) (w : ℕ × ℕ) (r : ℕ) →
    Sound o m.live (Open x) → o.valid w ≡ true → lookup w (book o m.live) ≡ Some r → GrantedOrMemory (call_ending o m (Open x) last (Remove w))

-- Of the leaves one at least is not linked.
abbrev pub SpareAfter : Ending → Type 0
SpareAfter e = (x : Index) → shape_of (Open x) ≡ e.shape → length (listed x) < word e.memory.live 3

abbrev pub OneFree : Type 0
OneFree = OfCalls (λ o m s last d e. SpareAfter e)
