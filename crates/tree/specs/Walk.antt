-- Going from leaf to leaf in the order of the index.
use Rattle.std.specs.Prelude.{◌≡◌, ℕ, true, cond, List, [], drop, Some, None, Ok, Err, Option, Result, slice_index_or}
use Rattle.refusal.specs.declared.Refusal.{Refusal}
use Rattle.refusal.specs.declared.Refusal.TheVariants.{NoPower, Outside, Blank as NotOpened}
use Rattle.keys.specs.InWords.{WordKind}
use Rattle.index.specs.Meaning.{grouped, leaf_at, listed}
use Rattle.index.specs.Nodes.{bounds, entry, numbers}
use Rattle.index.specs.Places.{place_after, position, within}
use Rattle.index.specs.Search.{Ascending, front, search}
use Rattle.index.specs.declared.node.Entry.{Entry}
use Rattle.index.specs.declared.table.Place.{Place}
use Rattle.tree.specs.declared.logbook.place.Home.{Home}
use Rattle.tree.specs.declared.logbook.State.{State}
use Rattle.tree.specs.declared.logbook.State.TheVariants.{Blank, Open, Dark}

-- A place of an open index; where its bounds ascend, the one that a key belongs to.
abbrev pub Located : WordKind → State → ℕ × ℕ → Place → Type 0
Located o Blank w p = ⊥
Located o (Open x) w p =
    (within (grouped x) p ≡ true) × (Ascending o (front (bounds (listed x))) → position (grouped x) p ≡ search o w (bounds (listed x)))
Located o Dark w p = ⊥

abbrev pub number_of : Option Entry → Option ℕ
number_of None = None
number_of (Some e) = Some e.to

-- The leaf that a place holds, if there is a place.
abbrev pub leaf_of : List (List Entry) → Option Place → Option ℕ
leaf_of gs None = None
leaf_of gs (Some p) = number_of (leaf_at gs p)

-- The leaf that the place after one holds.
abbrev pub past_of : List (List Entry) → Option Place → Option ℕ
past_of gs None = None
past_of gs (Some p) = leaf_of gs (place_after gs p)

-- Where a key belongs in an open index: the place, the leaf and the next leaf.
abbrev pub HomeIn : WordKind → State → ℕ × ℕ → Home → Type 0
HomeIn o Blank w s = ⊥
HomeIn o (Open x) w s =
    Located o (Open x) w s.place
    × (Some s.leaf ≡ leaf_of (grouped x) (Some s.place))
    × (s.next ≡ leaf_of (grouped x) (place_after (grouped x) s.place))
HomeIn o Dark w s = ⊥

-- The place of the first leaf of an open index.
abbrev pub First : State → Place → Type 0
First Blank p = ⊥
First (Open x) p = (within (grouped x) p ≡ true) × (position (grouped x) p ≡ 0)
First Dark p = ⊥

-- The leaf at a place, and the place after it.
abbrev pub stepped : State → Place → Result (ℕ × Option Place) Refusal
stepped Blank p = Err NotOpened
stepped (Open x) p =
    cond (within (grouped x) p)
    (Ok ((slice_index_or (listed x) (position (grouped x) p) (entry 0 (0, 0))).to, place_after (grouped x) p))
    (Err Outside)
stepped Dark p = Err NoPower

-- The leaves from a place on.
abbrev pub onwards : State → Option Place → List ℕ
onwards Blank p = []
onwards (Open x) None = []
onwards (Open x) (Some p) = drop (position (grouped x) p) (numbers (listed x))
onwards Dark p = []
