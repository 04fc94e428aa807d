-- Places of leaves: a group and a slot in it, and the number in the list of all leaves.
use Rattle.std.specs.Prelude.{◌≡◌, ℕ, suc, ◌+◌, ◌-◌, Bool, true, cond, ◌&&◌, List, [], ◌∷◌, length, is_some, Some, None, Option, nat_lt, slice_index_or}
use Rattle.index.specs.declared.node.Entry.{Entry}
use Rattle.index.specs.declared.table.Place.{Place}
use Rattle.index.specs.Search.{concat, offset}

abbrev pub group_of : List (List Entry) → Place → List Entry
group_of gs p = slice_index_or gs p.group []

-- Whether a place is there.
abbrev pub within : List (List Entry) → Place → Bool
within gs p = nat_lt p.group (length gs) && nat_lt p.slot (length (group_of gs p))

-- The number of a place in the list of all leaves.
abbrev pub position : List (List Entry) → Place → ℕ
position gs p = offset gs p.group + p.slot

-- One group on.
abbrev pub moved : Option Place → Option Place
moved None = None
moved (Some p) = Some (record { group = suc p.group; slot = p.slot })

-- The place of the leaf with number n.
abbrev pub place_at : List (List Entry) → ℕ → Option Place
place_at [] n = None
place_at (g ∷ gs) n = cond (nat_lt n (length g)) (Some (record { group = 0; slot = n })) (moved (place_at gs (n - length g)))

-- The place after one that is there.
abbrev pub place_after : List (List Entry) → Place → Option Place
place_after gs p = cond (within gs p) (place_at gs (position gs p + 1)) None

-- The place of the leaf before number n.
abbrev pub place_under : List (List Entry) → ℕ → Option Place
place_under gs n = cond (nat_lt 0 n) (place_at gs (n - 1)) None

-- The place before one that is there.
abbrev pub place_before : List (List Entry) → Place → Option Place
place_before gs p = cond (within gs p) (place_under gs (position gs p)) None

-- Places that are there and numbers of leaves tell each other.
abbrev pub Placed : Type 0
Placed = (gs : List (List Entry)) (p : Place) → within gs p ≡ true → place_at gs (position gs p) ≡ Some p

abbrev pub Numbered : Type 0
Numbered = (gs : List (List Entry)) (n : ℕ) (p : Place) → place_at gs n ≡ Some p → (within gs p ≡ true) × (position gs p ≡ n)

abbrev pub EveryNumber : Type 0
EveryNumber = (gs : List (List Entry)) (n : ℕ) → is_some (place_at gs n) ≡ nat_lt n (length (concat gs))
