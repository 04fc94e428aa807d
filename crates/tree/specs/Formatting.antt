-- What format answers and leaves.
use Rattle.std.specs.Prelude.{◌≡◌, ℕ, ◌+◌, ◌*◌, cond, ◌&&◌, ◌⊎◌, List, [], ◌∷◌, None, Ok, Err, Option, nat_le}
use Rattle.refusal.specs.declared.Refusal.TheVariants.{NoPower, LeafCount, WrongLength, WrongMark}
use Rattle.keys.specs.InWords.{WordKind}
use Rattle.memory.specs.Meaning.{Words, size_of}
use Rattle.writes.specs.Writes.{Answer, Run, outcome}
use Rattle.writes.specs.Laws.{Cut}
use Rattle.leaves.specs.Opening.{open_answer, plain}
use Rattle.books.specs.Format.{Empty, formatted}
use Rattle.index.specs.Nodes.{entry}
use Rattle.tree.specs.Shape.{Shape, dark, groups, shape_of}
use Rattle.tree.specs.declared.logbook.State.{State}
use Rattle.tree.specs.declared.logbook.State.TheVariants.{Blank, Open, Dark}

-- Whether a format with so many leaves can begin: 2 to 64, and the memory has room for them.
abbrev pub room_for : Words → ℕ → Answer
room_for m n = cond (nat_le 2 n && nat_le n 64) (cond (nat_le (8 + 72 * n) (size_of m)) (Ok tt) (Err WrongLength)) (Err LeafCount)

-- The format's own refusals: a dark logbook refuses.
abbrev pub format_check : State → Words → ℕ → Answer
format_check Blank m n = room_for m n
format_check (Open x) m n = room_for m n
format_check Dark m n = Err NoPower

-- A format that can begin writes until the memory's first refusal; another stores nothing.
abbrev pub begun : WordKind → Words → ℕ → Answer → Run
begun o m n (Ok _) = formatted o m n
begun o m n (Err e) = outcome m 0 (Err e)

-- What a format answers, and what it leaves of the words.
abbrev pub format_run : WordKind → State → Words → ℕ → Run
format_run o s m n = begun o m n (format_check s m n)

-- Granted, the logbook is open on leaf 1 alone; broken off, it is dark; otherwise it is as it was.
abbrev pub ended_shape : Answer → Shape
ended_shape (Ok _) = groups ((entry 1 (0, 0) ∷ []) ∷ [])
ended_shape (Err e) = dark

-- The state after a format by its own check and by how its writes ended.
abbrev pub shape_after : Shape → Answer → Answer → Shape
shape_after before (Ok _) ended = ended_shape ended
shape_after before (Err e) ended = before

-- The state after a format.
abbrev pub format_shape : WordKind → State → Words → ℕ → Shape
format_shape o s m n = shape_after (shape_of s) (format_check s m n) (format_run o s m n).ended

-- The leaf taken last is forgotten by a granted format.
abbrev pub taken_after : Option ℕ → Answer → Option ℕ
taken_after before (Ok _) = None
taken_after before (Err e) = before

-- A cut after it, wherever it stopped, leaves what a cut before it could leave, or words without a mark, or an empty book.
abbrev pub AfterCut : WordKind → Words → Words → Type 0
AfterCut o before after =
    (words : List ℕ) → Cut after words → Cut before words ⊎ ((open_answer o words ≡ Err (plain WrongMark)) ⊎ Empty o words)
