-- How calls and questions are to be answered, by what the plain book has.
use Rattle.std.specs.Prelude.{◌≡◌, ℕ, ◌+◌, ◌<◌, ◌≤◌, true, false, ◌≢◌, ◌⊎◌, List, Some, None, Ok, Err, Option}
use Rattle.refusal.specs.declared.Refusal.{Refusal}
use Rattle.refusal.specs.declared.Refusal.TheVariants.{NoPower, NoRoom}
use Rattle.keys.specs.InWords.{WordKind}
use Rattle.memory.specs.Meaning.{Words, left}
use Rattle.leaves.specs.Layout.{leaf_at, count_of, word}
use Rattle.leaves.specs.Opening.{member}
use Rattle.writes.specs.Writes.{Store, fall}
use Rattle.writes.specs.Laws.{Enough, New}
use Rattle.rewrites.specs.Rewrite.{link_at}
use Rattle.plans.specs.declared.deed.Deed.{Deed}
use Rattle.plans.specs.declared.deed.Deed.TheVariants.{Remove}
use Rattle.plans.specs.Deeds.{key_of, call_of, elements_of, Declines, BringsHeld, Goes}
use Rattle.plans.specs.Told.{Choice}
use Rattle.plans.specs.Plan.{Tree, Site, site}
use Rattle.plans.specs.Room.{ExactlyWhen, fits, LacksRoom, steps_enough}
use Rattle.histories.specs.PlainBook.{reading_of, Question, Reply, refused, tells, Ending, finished, unfinished, neither, PlainBook}
use Rattle.histories.specs.Outcome.{State, Logbook, in_use, Answer, commit_word}

-- (c) A remove of a key that the finished calls leave in the book tells its reading, or is refused for lack of power.
abbrev pub RemoveLaw : Deed → Option ℕ → Answer → Type 0
RemoveLaw (Remove w) held a = (r : ℕ) → held ≡ Some r → (a.result ≡ Ok (Some r)) ⊎ (a.result ≡ Err NoPower)
RemoveLaw d held a = Unit {0}

-- An open logbook has no room for a call.
abbrev pub NoRoomFor : Choice → WordKind → Deed → Words → Logbook → Type 0
NoRoomFor choose o d m (in_use t) = LacksRoom choose o m.live t d
NoRoomFor choose o d m _ = ⊥

-- So many steps suffice for a call: none where the logbook is not open.
abbrev pub steps_for : WordKind → Deed → Words → Logbook → ℕ
steps_for o d m (in_use t) = steps_enough o m.live t d
steps_for o d m _ = 0

-- A call of an open logbook, where the plain book has this reading of the call's key, or none:
pub record OpenCall (choose : Choice) (o : WordKind) (held : Option ℕ) (before later : State) (d : Deed) (a : Answer) : Type 0 where
  -- where it is granted, it tells that reading;
  pub grants : (had : Option ℕ) → a.result ≡ Ok had → had ≡ held
  -- but for room and power it is refused exactly as the plain book has it: a key to put that is there, one to change or remove that is not;
  pub declines : (e : Refusal) → e ≢ NoRoom → e ≢ NoPower → ExactlyWhen (a.result ≡ Err e) (Declines d held e)
  -- for room exactly where it has something to do and its split finds fewer than two free leaves, whatever the power;
  pub room : ExactlyWhen (a.result ≡ Err NoRoom) (Goes d held × NoRoomFor choose o d before.memory before.logbook)
  -- for power only with all steps taken that were left, fewer than suffice;
  pub power : a.result ≡ Err NoPower → (before.memory.power ≡ left a.steps) × (a.steps < steps_for o d before.memory before.logbook)
  -- a refusal other than for power leaves everything, and takes no step;
  pub leaves : (e : Refusal) → a.result ≡ Err e → e ≢ NoPower → (later ≡ before) × (a.steps ≡ 0)
  -- so does a change to the reading held, which is granted;
  pub nothing : BringsHeld d held → (a ≡ record { result = Ok held; steps = 0 }) × (later ≡ before)
  -- and no more steps are taken than suffice.
  pub few : a.steps ≤ steps_for o d before.memory before.logbook
  -- So a call that has something to do is granted where there is room, and steps enough are left.
  pub goes : Goes d held → (NoRoomFor choose o d before.memory before.logbook → ⊥) → Enough before.memory.power (steps_for o d before.memory before.logbook) → a.result ≡ Ok held

-- Leaf k is one of the memory's, and is not linked.
abbrev pub Unlinked : List ℕ → Tree → ℕ → Type 0
Unlinked m t k = (1 ≤ k) × (k ≤ word m 3) × (member k t.leaves ≡ false)

-- The commit word of a call whose key belongs at a place, in words that do not have it yet:
pub record Commits (o : WordKind) (m : List ℕ) (t : Tree) (d : Deed) (s : Site) (commit : Store) : Type 0 where
  -- where its elements fit, the count of its leaf, raised by them;
  pub append : fits o m t d ≡ true → commit ≡ record { at = leaf_at s.leaf + 1; word = count_of m s.leaf + elements_of (call_of d) }
  -- else the word that links its leaf, and links one instead that was not linked.
  pub rewrite : fits o m t d ≡ false → (commit.at ≡ link_at 2 s.before) × Unlinked m t commit.word
  pub differs : New commit m → ⊥

-- So of a call of an open logbook.
abbrev pub CommitsIn : WordKind → Deed → Store → Words → Logbook → Type 0
CommitsIn o d commit m (in_use t) = Commits o m.live t d (site o t (key_of d)) commit
CommitsIn o d commit m _ = ⊥

-- An unfinished call has its commit word.
abbrev pub HasCommit : Choice → WordKind → State → Deed → Type 0
HasCommit choose o s d = (commit : Store) × (commit_word choose o s d ≡ Some commit) × CommitsIn o d commit s.memory s.logbook

-- A call is finished when it is granted, and unfinished when an open logbook refuses it for power. Else it is neither.
abbrev pub EndingLaw : Choice → WordKind → PlainBook → State → Deed → Answer → Ending → Type 0
EndingLaw choose o b before d a finished = (had : Option ℕ) × (a.result ≡ Ok had)
EndingLaw choose o b before d a unfinished = (b.waiting ≡ None) × (a.result ≡ Err NoPower) × HasCommit choose o before d
EndingLaw choose o b before d a neither = (e : Refusal) × (a.result ≡ Err e) × (b.waiting ≡ None → e ≢ NoPower)

-- A call in the state that a history has come to, and the state after it, by the plain book:
pub record CallLaw (choose : Choice) (o : WordKind) (b : PlainBook) (before later : State) (d : Deed) (a : Answer) (e : Ending) : Type 0 where
  pub while_open : b.waiting ≡ None → OpenCall choose o (reading_of (key_of d) b.pairs) before later d a
  -- While a call waits the logbook is dark: refused for power, without a step.
  pub while_dark : (w : Deed) → b.waiting ≡ Some w → (a ≡ record { result = Err NoPower; steps = 0 }) × (later ≡ before)
  pub remove : RemoveLaw d (reading_of (key_of d) b.pairs) a
  pub ends : EndingLaw choose o b before d a e
  -- The steps told are those that the memory granted, which were there, never more than 87.
  pub there : Enough before.memory.power a.steps
  pub spent : later.memory.power ≡ fall before.memory.power a.steps
  pub few : a.steps ≤ 87

-- Find, next and pairs tell exactly the plain book; while a call waits they are refused for power.
pub record QuestionLaw (o : WordKind) (b : PlainBook) (q : Question) (r : Reply) : Type 0 where
  pub while_open : b.waiting ≡ None → r ≡ tells o q b.pairs
  pub while_dark : (w : Deed) → b.waiting ≡ Some w → r ≡ refused NoPower
