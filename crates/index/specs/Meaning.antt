-- What an index means: its groups of leaves in their order.
use Rattle.std.specs.Prelude.{ℕ, Bool, cond, ◌&&◌, List, length, is_some, Some, None, Option, nat_le, nat_lt, slice_index_or, slice_set}
use Rattle.index.specs.declared.node.Entry.{Entry}
use Rattle.index.specs.declared.table.Index.{Index}
use Rattle.index.specs.declared.table.Place.{Place}
use Rattle.index.specs.Search.{concat}
use Rattle.index.specs.Nodes.{entry, joined, parted, renamed}
use Rattle.index.specs.Places.{within, group_of, position, place_after}
use Rattle.index.specs.Shape.{groups, singles}

unfoldable pub grouped : Index → List (List Entry)
grouped x = groups x.used x.nodes

-- All leaves in their order.
abbrev pub listed : Index → List Entry
listed x = concat (grouped x)

-- The groups of an index, if there is one.
abbrev pub grouped_in : Option Index → Option (List (List Entry))
grouped_in None = None
grouped_in (Some x) = Some (grouped x)

-- An index built anew takes 1 to 64 leaves, each in a group of its own.
abbrev pub built : List Entry → Option (List (List Entry))
built es = cond (nat_le 1 (length es) && nat_le (length es) 64) (Some (singles es)) None

-- The leaf at a place, with its bound.
abbrev pub leaf_at : List (List Entry) → Place → Option Entry
leaf_at gs p = cond (within gs p) (Some (slice_index_or (concat gs) (position gs p) (entry 0 (0, 0)))) None

abbrev pub with_group : List (List Entry) → Place → List Entry → List (List Entry)
with_group gs p g = slice_set gs p.group g

-- Another leaf in the place of one: only its number changes.
abbrev pub replaced : List (List Entry) → Place → ℕ → List (List Entry)
replaced gs p leaf = with_group gs p (renamed (group_of gs p) p.slot leaf)

-- A split of the leaf at p in two: where its node has five, all is built anew.
abbrev pub split : List (List Entry) → Place → ℕ → ℕ × ℕ → ℕ → List (List Entry)
split gs p left b right =
    cond (nat_lt (length (group_of gs p)) 5)
    (with_group gs p (parted (group_of gs p) p.slot left b right))
    (singles (concat (with_group gs p (parted (group_of gs p) p.slot left b right))))

-- A split is taken at a place that is there, while there are fewer than 64 leaves.
abbrev pub splits : List (List Entry) → Place → Bool
splits gs p = within gs p && nat_lt (length (concat gs)) 64

-- One leaf in the place of the one at p and the one after it, all built anew.
abbrev pub merged : List (List Entry) → Place → ℕ → List (List Entry)
merged gs p leaf = singles (joined (concat gs) (position gs p) leaf)

-- A merge is taken at a place that has one after it.
abbrev pub merges : List (List Entry) → Place → Bool
merges gs p = is_some (place_after gs p)
