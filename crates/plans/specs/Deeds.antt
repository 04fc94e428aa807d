-- The calls that change a book, and what they make of it.
use Rattle.std.specs.Prelude.{◌≡◌, ℕ, Bool, true, false, ◌≢◌, List, Some, None, Option}
use Rattle.refusal.specs.declared.Refusal.{Refusal}
use Rattle.refusal.specs.declared.Refusal.TheVariants.{Present, Absent}
use Rattle.keys.specs.InWords.{WordKind, WordOrdered}
use Rattle.leaves.specs.declared.leaf.Pair.{Pair}
use Rattle.leaves.specs.Pairs.{lookup, insert, delete}
use Rattle.leaves.specs.Ascent.{Ascending}
use Rattle.plans.specs.declared.deed.Call.{Call}
use Rattle.plans.specs.declared.deed.Call.TheVariants as call
use Rattle.plans.specs.declared.deed.Deed.{Deed}
use Rattle.plans.specs.declared.deed.Deed.TheVariants.{Put, Change, Remove}

abbrev pub key_of : Deed → ℕ × ℕ
key_of (Put w r) = w
key_of (Change w r) = w
key_of (Remove w) = w

abbrev pub call_of : Deed → Call
call_of (Put w r) = call.Put
call_of (Change w r) = call.Change
call_of (Remove w) = call.Remove

abbrev pub may_split : Call → Bool
may_split call.Put = true
may_split call.Change = true
may_split call.Remove = false

-- How many elements a call appends to the leaf of its key.
abbrev pub elements_of : Call → ℕ
elements_of call.Put = 1
elements_of call.Change = 2
elements_of call.Remove = 1

-- A book with the call done: with a pair more, with another reading, with a pair less.
abbrev pub done : WordKind → Deed → List Pair → List Pair
done o (Put w r) ps = insert o (record { key = w; reading = r }) ps
done o (Change w r) ps = insert o (record { key = w; reading = r }) (delete w ps)
done o (Remove w) ps = delete w ps

-- A call's own refusal, by what is held of its key.
abbrev pub Declines : Deed → Option ℕ → Refusal → Type 0
Declines (Put w r) held e = (e ≡ Present) × ((old : ℕ) × (held ≡ Some old))
Declines (Change w r) held e = (e ≡ Absent) × (held ≡ None)
Declines (Remove w) held e = (e ≡ Absent) × (held ≡ None)

-- A change brings the reading that is held.
abbrev pub BringsHeld : Deed → Option ℕ → Type 0
BringsHeld (Put w r) held = ⊥
BringsHeld (Change w r) held = held ≡ Some r
BringsHeld (Remove w) held = ⊥

-- There is something to do: a key to put is not there, one to remove is, and one to change is with another reading.
abbrev pub Goes : Deed → Option ℕ → Type 0
Goes (Put w r) held = held ≡ None
Goes (Change w r) held = (old : ℕ) × (held ≡ Some old) × (old ≢ r)
Goes (Remove w) held = (old : ℕ) × (held ≡ Some old)

-- A call with something to do changes the book.
abbrev pub CallsChange : Type 0
CallsChange = (o : WordKind) → WordOrdered o → (d : Deed) (ps : List Pair) → Goes d (lookup (key_of d) ps) → done o d ps ≢ ps

-- A change to the reading held leaves it as it is.
abbrev pub NothingChanges : Type 0
NothingChanges = (o : WordKind) → WordOrdered o → (d : Deed) (ps : List Pair) → Ascending o ps → BringsHeld d (lookup (key_of d) ps) → done o d ps ≡ ps
