-- The law of cuts, at each event of a history.
use Rattle.std.specs.Prelude.{◌≡◌, ℕ, Bool, false, List, [], ◌∷◌, Some, None, Ok, Option}
use Rattle.keys.specs.InWords.{WordKind, WordOrdered}
use Rattle.memory.specs.Meaning.{Words, Settled}
use Rattle.leaves.specs.declared.leaf.Pair.{Pair}
use Rattle.leaves.specs.Opening.{open_answer}
use Rattle.writes.specs.Writes.{Store}
use Rattle.writes.specs.Laws.{New}
use Rattle.books.specs.Footprint.{book}
use Rattle.books.specs.Format.{Roomy, formatted}
use Rattle.turns.specs.Turns.{stands_new}
use Rattle.plans.specs.declared.deed.Deed.{Deed}
use Rattle.plans.specs.Told.{Choice, Lawful, by_rule}
use Rattle.plans.specs.Plan.{Tree}
use Rattle.plans.specs.Room.{ExactlyWhen}
use Rattle.plans.specs.Laws.{Sound}
use Rattle.histories.specs.PlainBook.{with_call, finished, unfinished, neither, PlainBook, plain, after_call, after_cut}
use Rattle.histories.specs.Outcome.{State, Logbook, in_use, dark, commit_word}
use Rattle.histories.specs.Answering.{CallLaw, QuestionLaw}
use Rattle.histories.specs.Histories.{Event, called, asked, cut, after, History, Act, Keyed, played}

-- The account of a history: its plain book, and beside it the commit word of the call that waits there, or none.
pub record Account : Type 0 where
  pub book : PlainBook
  pub commit : Option Store

-- The account of a book where no call waits.
abbrev pub account_of : List Pair → Account
account_of ps = record { book = plain ps; commit = None }

-- A call waits, and its commit word stands new.
abbrev pub StandsNew : Option Store → List ℕ → Type 0
StandsNew None words = ⊥
StandsNew (Some commit) words = New commit words

-- At a cut that leaves these words:
pub record CutLaw (o : WordKind) (now : Account) (words : List ℕ) : Type 0 where
  -- (a) the opened book is what the finished calls come to exactly when no unfinished call's commit word stands new;
  pub equal : ExactlyWhen (book o words ≡ now.book.pairs) (StandsNew now.commit words → ⊥)
  -- (b) where one stands new, the opened book is what the finished calls come to with the whole of this call;
  pub whole : (d : Deed) → now.book.waiting ≡ Some d → StandsNew now.commit words → book o words ≡ with_call o d now.book.pairs
  -- (c) opening is not refused.
  pub opens : (ks : List ℕ) × (open_answer o words ≡ Ok ks)

-- At an event, with the states before and after it.
abbrev pub EventLaw : Choice → WordKind → Account → State → State → Event → Type 0
EventLaw choose o now before later (called d a e) = CallLaw choose o now.book before later d a e
EventLaw choose o now before later (asked q r) = QuestionLaw o now.book q r
EventLaw choose o now before later (cut words power) = CutLaw o now words

-- While no call waits the logbook is open, its memory is settled, and their book is the plain book. While one waits, with its commit word, the
-- logbook is dark.
abbrev pub Stands : WordKind → Words → Logbook → List Pair → Option Deed → Option Store → Type 0
Stands o m (in_use t) ps None None = Settled m × Sound o m.live t × (book o m.live ≡ ps)
Stands o m dark ps (Some d) (Some commit) = Unit {0}
Stands o m _ ps _ _ = ⊥

-- So of a state and an account.
abbrev pub StandsFor : WordKind → State → Account → Type 0
StandsFor o s now = Stands o s.memory s.logbook now.book.pairs now.book.waiting now.commit

-- Whether the waiting call's commit word stands new.
abbrev pub waiting_stands : Option Store → List ℕ → Bool
waiting_stands None words = false
waiting_stands (Some commit) words = stands_new commit words

-- The account after an event. An unfinished call waits with the commit word that it has; a cut tells the plain book whether this stands new.
abbrev pub fed : Choice → WordKind → State → Event → Account → Account
fed choose o s (called d a finished) now = record { book = after_call o d finished now.book; commit = now.commit }
fed choose o s (called d a unfinished) now = record { book = after_call o d unfinished now.book; commit = commit_word choose o s d }
fed choose o s (called d a neither) now = now
fed choose o s (asked q r) now = now
fed choose o s (cut words power) now = record { book = after_cut o (waiting_stands now.commit words) now.book; commit = None }

-- And after all of them.
abbrev pub fed_all : Choice → WordKind → State → List Event → Account → Account
fed_all choose o s [] now = now
fed_all choose o s (e ∷ es) now = fed_all choose o (after choose o s e) es (fed choose o s e now)

-- THE LAW, at each event, with the account that was fed all events before it.
abbrev pub HistoryLaw : Choice → WordKind → State → Account → List Event → Type 0
HistoryLaw choose o s now [] = StandsFor o s now
HistoryLaw choose o s now (e ∷ es) =
    StandsFor o s now × EventLaw choose o now s (after choose o s e) e × HistoryLaw choose o (after choose o s e) (fed choose o s e now) es

-- THE THEOREM, from any open logbook that is sound on a settled memory.
abbrev pub LawfulFrom : Type 0
LawfulFrom =
    (choose : Choice) → Lawful choose → (o : WordKind) → WordOrdered o → (m : Words) (t : Tree) → Settled m → Sound o m.live t →
    (es : List Event) → History choose o (record { memory = m; logbook = in_use t }) es →
    HistoryLaw choose o (record { memory = m; logbook = in_use t }) (account_of (book o m.live)) es

-- A settled memory grants a format of so many leaves.
pub record FormatGranted (o : WordKind) (m : Words) (leaves : ℕ) : Type 0 where
  pub settled : Settled m
  pub roomy : Roomy m leaves
  pub granted : (formatted o m leaves).ended ≡ Ok tt

-- The state after it.
abbrev pub after_format : WordKind → Words → ℕ → State
after_format o m leaves = record { memory = (formatted o m leaves).after; logbook = in_use (record { leaves = 1 ∷ []; bounds = []; last = None }) }

-- The law of cuts for a kind of key: every history after a granted format is lawful, whatever calls, questions and cuts it has, any step the last
-- one before a cut, and any mix of the words that are not flushed.
abbrev pub LawFor : Choice → WordKind → Type 0
LawFor choose o =
    (m : Words) (leaves : ℕ) → FormatGranted o m leaves →
    (es : List Event) → History choose o (after_format o m leaves) es → HistoryLaw choose o (after_format o m leaves) (account_of []) es

-- THE LAW OF CUTS, for every kind of key in order, and every lawful choice how leaves are rewritten.
abbrev pub LawOfCuts : Type 0
LawOfCuts = (choose : Choice) → Lawful choose → (o : WordKind) → WordOrdered o → LawFor choose o

-- By the rule.
abbrev pub LawByRule : Type 0
LawByRule = (o : WordKind) → WordOrdered o → LawFor by_rule o

-- So it holds of every list.
abbrev pub LawOfLists : Type 0
LawOfLists =
    (choose : Choice) → Lawful choose → (o : WordKind) → WordOrdered o → (m : Words) (leaves : ℕ) → FormatGranted o m leaves →
    (acts : List Act) → Keyed o acts → HistoryLaw choose o (after_format o m leaves) (account_of []) (played choose o (after_format o m leaves) acts)
