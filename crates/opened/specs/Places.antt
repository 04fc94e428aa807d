-- Where a fault of opening lies, and what opening answers to damage.
use Rattle.std.specs.Prelude.{◌≡◌, ℕ, ◌+◌, ◌-◌, cond, length, Some, None, Option, ◌==◌}
use Rattle.refusal.specs.declared.Refusal.{Refusal}
use Rattle.refusal.specs.declared.Refusal.TheVariants.{WrongMark, OtherKind, LeafCount, BadLink, BadLeaf}
use Rattle.leaves.specs.Layout.{leaf_at, slot_at}
use Rattle.opened.specs.declared.book.Opened.{Opened}
use Rattle.opened.specs.declared.place.Place.{Place}
use Rattle.opened.specs.declared.outcome.Outcome.{Outcome}
use Rattle.opened.specs.declared.outcome.Outcome.TheVariants.{SameBook, OtherBook, Refused}

abbrev pub from : ℕ → ℕ → Place
from first many = record { first = first; many = many }

-- The word, link, count and form, or slot that opening stumbled over.
abbrev pub stumbled : Refusal → ℕ → ℕ → Option Place
stumbled WrongMark leaf slot = Some (from 0 1)
stumbled OtherKind leaf slot = Some (from 1 1)
stumbled LeafCount leaf slot = Some (from 3 1)
stumbled BadLink leaf slot = Some (from (cond (leaf == 0) 2 (leaf_at leaf)) 1)
stumbled BadLeaf leaf slot = Some (cond (slot == 0) (from (leaf_at leaf + 1) 2) (from (slot_at leaf (slot - 1)) 4))
stumbled _ leaf slot = None

-- What opening answers, and whether the book is the good one.
abbrev pub IsOutcome : (x good : Opened) → Outcome → Type 0
IsOutcome x good SameBook = (x.fault ≡ None) × (x.pairs.items ≡ good.pairs.items)
IsOutcome x good (OtherBook n) = (x.fault ≡ None) × ¬ (x.pairs.items ≡ good.pairs.items) × (n ≡ length x.pairs.items)
IsOutcome x good (Refused fault) = x.fault ≡ Some fault
