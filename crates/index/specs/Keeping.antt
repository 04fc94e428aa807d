-- What a change keeps: bounds that ascend still ascend, and a change of one group changes one node.
use Rattle.std.specs.Prelude.{◌≡◌, ℕ, ◌+◌, ◌<◌, true, ◌≢◌, List, length, slice_index_or}
use Rattle.keys.specs.InWords.{WordKind, WordOrdered}
use Rattle.index.specs.declared.node.Entry.{Entry}
use Rattle.index.specs.declared.table.Place.{Place}
use Rattle.index.specs.Nodes.{bounds, joined, parted, renamed}
use Rattle.index.specs.Search.{front, Ascending}
use Rattle.index.specs.Shape.{lowest}
use Rattle.index.specs.Places.{within, group_of}
use Rattle.index.specs.Meaning.{replaced, split}
use Rattle.index.specs.Showing.{node_told}

-- A new bound lies after all bounds before place p, and before the bound there unless it is the last.
abbrev pub FitsAt : WordKind → List (ℕ × ℕ) → ℕ → ℕ × ℕ → Type 0
FitsAt o bs p b =
    ((i : ℕ) → i < p → o.before (slice_index_or bs i (0, 0)) b ≡ true)
    × (p + 1 < length bs → o.before b (slice_index_or bs p (0, 0)) ≡ true)

-- Bounds that ascended still ascend, given a new one that fits.
abbrev pub AscendsWith : List Entry → ℕ → ℕ × ℕ → List Entry → Type 0
AscendsWith old p b new =
    (o : WordKind) → WordOrdered o → Ascending o (front (bounds old)) → FitsAt o (bounds old) p b → Ascending o (front (bounds new))

-- Bounds that ascended still ascend.
abbrev pub AscendsStill : List Entry → List Entry → Type 0
AscendsStill old new = (o : WordKind) → Ascending o (front (bounds old)) → Ascending o (front (bounds new))

abbrev pub SplitAscends : Type 0
SplitAscends =
    (es : List Entry) (p left : ℕ) (b : ℕ × ℕ) (right : ℕ) → p < length es → AscendsWith es p b (parted es p left b right)

abbrev pub MergeAscends : Type 0
MergeAscends = (es : List Entry) (p leaf : ℕ) → p + 1 < length es → AscendsStill es (joined es p leaf)

abbrev pub ReplaceKeeps : Type 0
ReplaceKeeps = (es : List Entry) (p leaf : ℕ) → bounds (renamed es p leaf) ≡ bounds es

-- A node other than that of a place.
abbrev pub OtherNode : List (List Entry) → Place → ℕ → Type 0
OtherNode gs p i = i ≢ lowest (length gs) + p.group

abbrev pub ReplaceOneNode : Type 0
ReplaceOneNode =
    (gs : List (List Entry)) (p : Place) (leaf i : ℕ) → within gs p ≡ true → OtherNode gs p i
    → node_told (replaced gs p leaf) i ≡ node_told gs i

abbrev pub SplitOneNode : Type 0
SplitOneNode =
    (gs : List (List Entry)) (p : Place) (left : ℕ) (b : ℕ × ℕ) (right i : ℕ) → within gs p ≡ true → length (group_of gs p) < 5 → OtherNode gs p i
    → node_told (split gs p left b right) i ≡ node_told gs i
