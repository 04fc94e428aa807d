-- What a logbook tells of its book.
use Rattle.std.specs.Prelude.{ℕ, cond, List, Some, None, Ok, Err, Option, Result, length, nat_lt, slice_index_or}
use Rattle.refusal.specs.declared.Refusal.{Refusal}
use Rattle.refusal.specs.declared.Refusal.TheVariants.{NoPower, Absent, Blank as NotOpened}
use Rattle.keys.specs.InWords.{WordKind}
use Rattle.leaves.specs.declared.leaf.Pair.{Pair}
use Rattle.leaves.specs.Pairs.{first_after, lookup}
use Rattle.books.specs.Footprint.{book}
use Rattle.index.specs.Meaning.{grouped, listed}
use Rattle.index.specs.Showing.{Telling, node_told}
use Rattle.index.specs.Nodes.{bounds, entry}
use Rattle.index.specs.Search.{Ascending, front, search}
use Rattle.index.specs.declared.table.Index.{Index}
use Rattle.tree.specs.declared.logbook.State.{State}
use Rattle.tree.specs.declared.logbook.State.TheVariants.{Blank, Open, Dark}

-- A blank logbook refuses, and a dark one; an open one answers.
abbrev pub asked : {X : Type 0} → State → Result X Refusal → Result X Refusal
asked Blank answer = Err NotOpened
asked (Open x) answer = answer
asked Dark answer = Err NoPower

-- The index of an open logbook.
abbrev pub indexed : State → Result Index Refusal
indexed Blank = Err NotOpened
indexed (Open x) = Ok x
indexed Dark = Err NoPower

abbrev pub found : Option ℕ → Result ℕ Refusal
found None = Err Absent
found (Some reading) = Ok reading

-- Find tells the reading that the book has of a key.
abbrev pub find_answer : WordKind → List ℕ → State → ℕ × ℕ → Result ℕ Refusal
find_answer o m s w = asked s (found (lookup w (book o m)))

abbrev pub paired_or : Option Pair → Result Pair Refusal
paired_or None = Err Absent
paired_or (Some p) = Ok p

-- Next tells the first pair of the book after a key.
abbrev pub next_answer : WordKind → List ℕ → State → ℕ × ℕ → Result Pair Refusal
next_answer o m s w = asked s (paired_or (first_after o w (book o m)))

-- Pairs tells how many the book has.
abbrev pub pairs_answer : WordKind → List ℕ → State → Result ℕ Refusal
pairs_answer o m s = asked s (Ok (length (book o m)))

-- The bounds of an open index ascend.
abbrev pub Rising : WordKind → State → Type 0
Rising o Blank = Unit {0}
Rising o (Open x) = Ascending o (front (bounds (listed x)))
Rising o Dark = Unit {0}

-- The leaf that the index locates for a key.
abbrev pub leaf_for_key : WordKind → State → ℕ × ℕ → Result ℕ Refusal
leaf_for_key o Blank w = Err NotOpened
leaf_for_key o (Open x) w = Ok (slice_index_or (listed x) (search o w (bounds (listed x))) (entry 0 (0, 0))).to
leaf_for_key o Dark w = Err NoPower

-- The record after node i is asked for: what it told before, unless the logbook is open and the node is there.
abbrev pub node_after : State → ℕ → Telling → Telling
node_after Blank i before = before
node_after (Open x) i before = cond (nat_lt 90 i) before (node_told (grouped x) i)
node_after Dark i before = before
