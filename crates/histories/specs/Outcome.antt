-- How calls and questions turn out by the rules, in any state of a logbook.
use Rattle.std.specs.Prelude.{ℕ, List, length, Some, None, Ok, Err, Option, Result}
use Rattle.refusal.specs.declared.Refusal.{Refusal}
use Rattle.refusal.specs.declared.Refusal.TheVariants.{NoPower, Blank}
use Rattle.keys.specs.InWords.{WordKind}
use Rattle.memory.specs.Meaning.{Words}
use Rattle.leaves.specs.declared.leaf.Pair.{Pair}
use Rattle.leaves.specs.declared.open.Fault.{Fault}
use Rattle.leaves.specs.Opening.{open_answer}
use Rattle.leaves.specs.Pairs.{lookup, first_after}
use Rattle.writes.specs.Writes.{Store, Run, perform}
use Rattle.writes.specs.Laws.{change}
use Rattle.books.specs.Bounds.{bounds_of}
use Rattle.books.specs.Footprint.{book}
use Rattle.plans.specs.declared.deed.Deed.{Deed}
use Rattle.plans.specs.Deeds.{key_of}
use Rattle.plans.specs.Told.{Choice}
use Rattle.plans.specs.Plan.{Tree, Plan, refuse, nothing, writes, plan_by}
use Rattle.histories.specs.PlainBook.{Question, find, next, pairs, Reply, number, refused, reading_or, pair_or, Ending, finished, unfinished, neither}

-- A logbook as its calls find it: blank, open with what it keeps beside the memory, or dark.
pub data Logbook : Type 0 where
  blank : Logbook
  in_use : Tree → Logbook
  dark : Logbook

-- A memory and the logbook on it.
pub record State : Type 0 where
  pub memory : Words
  pub logbook : Logbook

-- What a put, change or remove is answered: the reading that its key had, or its refusal; and the steps taken.
pub record Answer : Type 0 where
  pub result : Result (Option ℕ) Refusal
  pub steps : ℕ

-- How a call turns out: its answer, how it ended, and the state after it.
pub record Outcome : Type 0 where
  pub answer : Answer
  pub ending : Ending
  pub state : State

-- Granted, with the reading that the key had.
abbrev pub granted : Option ℕ → ℕ → Words → Tree → Outcome
granted had steps m t = record {
  answer = record { result = Ok had; steps = steps };
  ending = finished;
  state = record { memory = m; logbook = in_use t };
}

-- Refused without a step: all stays.
abbrev pub declined : Refusal → State → Outcome
declined e s = record { answer = record { result = Err e; steps = 0 }; ending = neither; state = s }

-- Only a lack of power leaves a call unfinished.
abbrev pub broken_off : Refusal → Ending
broken_off NoPower = unfinished
broken_off _ = neither

-- What was written was granted whole, or the memory refused a step and the logbook is dark.
abbrev pub wrote : Result (Unit {0}) Refusal → Run → Tree → Option ℕ → Outcome
wrote (Ok _) r new had = granted had r.steps r.after new
wrote (Err e) r new had = record {
  answer = record { result = Err e; steps = r.steps };
  ending = broken_off e;
  state = record { memory = r.after; logbook = dark };
}

-- By its plan, where this reading is held of the call's key.
abbrev pub by_plan : Words → Tree → Option ℕ → Plan → Outcome
by_plan m t had (refuse e) = declined e (record { memory = m; logbook = in_use t })
by_plan m t had nothing = granted had 0 m t
by_plan m t had (writes before commit new) = wrote (perform m (change before commit)).ended (perform m (change before commit)) new had

-- A call in a memory and a logbook.
abbrev pub outcome_in : Choice → WordKind → Words → Logbook → Deed → Outcome
outcome_in choose o m blank d = declined Blank (record { memory = m; logbook = blank })
outcome_in choose o m (in_use t) d = by_plan m t (lookup (key_of d) (book o m.live)) (plan_by choose o m.live t d)
outcome_in choose o m dark d = declined NoPower (record { memory = m; logbook = dark })

-- A call in any state.
abbrev pub outcome : Choice → WordKind → State → Deed → Outcome
outcome choose o s d = outcome_in choose o s.memory s.logbook d

-- The commit word of a plan, if it writes.
abbrev pub commit_of : Plan → Option Store
commit_of (refuse e) = None
commit_of nothing = None
commit_of (writes before commit new) = Some commit

-- The commit word of a call in a memory and a logbook: none where this is not open.
abbrev pub commit_in : Choice → WordKind → Words → Logbook → Deed → Option Store
commit_in choose o m (in_use t) d = commit_of (plan_by choose o m.live t d)
commit_in choose o m _ d = None

-- The commit word of a call in a state: the word of its last store, and what it stores there, if it stores at all.
abbrev pub commit_word : Choice → WordKind → State → Deed → Option Store
commit_word choose o s d = commit_in choose o s.memory s.logbook d

-- What a book replies.
abbrev pub replies : WordKind → Question → List Pair → Reply
replies o (find w) ps = reading_or (lookup w ps)
replies o (next w) ps = pair_or (first_after o w ps)
replies o pairs ps = number (length ps)

-- A question in a memory and a logbook.
abbrev pub reply_in : WordKind → Words → Logbook → Question → Reply
reply_in o m blank q = refused Blank
reply_in o m (in_use t) q = replies o q (book o m.live)
reply_in o m dark q = refused NoPower

-- A question in any state.
abbrev pub reply : WordKind → State → Question → Reply
reply o s q = reply_in o s.memory s.logbook q

-- A logbook by what opening answers.
abbrev pub by_opening : WordKind → List ℕ → Result (List ℕ) Fault → Logbook
by_opening o words (Ok ks) = in_use (record { leaves = ks; bounds = bounds_of o words ks; last = None })
by_opening o words (Err e) = blank

-- A logbook opened on words.
abbrev pub opened : WordKind → List ℕ → Logbook
opened o words = by_opening o words (open_answer o words)
