-- By what is held of its key a call is declined, has nothing to do, or goes, and only one of the three.
use Rattle.std.proofs.Common.{◌≡◌, ℕ, Option, ap, sym, ◌∙◌, arith}
use Rattle.std.proofs.lemmas.Option.{none-some, same_Some}
use Rattle.refusal.specs.declared.Refusal.{Refusal}
use Rattle.refusal.specs.declared.Refusal.TheVariants.{NoPower, NoRoom}
use Rattle.refusal.specs.Numbers.{number_of}
use Rattle.plans.specs.declared.deed.Deed.{Deed}
use Rattle.plans.specs.declared.deed.Deed.TheVariants.{Put, Change, Remove}
use Rattle.plans.specs.Deeds.{Declines, BringsHeld, Goes}

-- One refusal at most.
pub declines_one : (d : Deed) (held : Option ℕ) (e f : Refusal) → Declines d held e → Declines d held f → e ≡ f
declines_one (Put w r) held e f a b = a.0 ∙ sym b.0
declines_one (Change w r) held e f a b = a.0 ∙ sym b.0
declines_one (Remove w) held e f a b = a.0 ∙ sym b.0

pub goes_not_declined : (d : Deed) (held : Option ℕ) (e : Refusal) → Goes d held → Declines d held e → ⊥
goes_not_declined (Put w r) held e none (is, (old, some)) = none-some old (sym none ∙ some)
goes_not_declined (Change w r) held e (old, some, other) (is, none) = none-some old (sym none ∙ some)
goes_not_declined (Remove w) held e (old, some) (is, none) = none-some old (sym none ∙ some)

pub held_not_declined : (d : Deed) (held : Option ℕ) (e : Refusal) → BringsHeld d held → Declines d held e → ⊥
held_not_declined (Put w r) held e brings declines = brings
held_not_declined (Change w r) held e some (is, none) = none-some r (sym none ∙ some)
held_not_declined (Remove w) held e brings declines = brings

pub goes_not_held : (d : Deed) (held : Option ℕ) → Goes d held → BringsHeld d held → ⊥
goes_not_held (Put w r) held goes brings = brings
goes_not_held (Change w r) held (old, some, other) brings = other (same_Some old r (sym some ∙ brings))
goes_not_held (Remove w) held goes brings = brings

-- No call is declined for room or for power.
pub room_no_power : NoRoom ≡ NoPower → ⊥
room_no_power e = let n = ap number_of e in absurd (omega arith)

pub declined_no_room : (d : Deed) (held : Option ℕ) → Declines d held NoRoom → ⊥
declined_no_room (Put w r) held h = let n = ap number_of h.0 in absurd (omega arith)
declined_no_room (Change w r) held h = let n = ap number_of h.0 in absurd (omega arith)
declined_no_room (Remove w) held h = let n = ap number_of h.0 in absurd (omega arith)

pub declined_no_power : (d : Deed) (held : Option ℕ) → Declines d held NoPower → ⊥
declined_no_power (Put w r) held h = let n = ap number_of h.0 in absurd (omega arith)
declined_no_power (Change w r) held h = let n = ap number_of h.0 in absurd (omega arith)
declined_no_power (Remove w) held h = let n = ap number_of h.0 in absurd (omega arith)
