use Rattle.std.proofs.Common.{sym, ◌∙◌}
use Rattle.std.specs.Prelude.{nat_lt}
use Rattle.keys.specs.Stamps.{stamp_kind}
use Rattle.keys.proofs.StampWords.{by_parts, made_both, made_neither}
use Rattle.keys.proofs.stamp.make.StampKey.pair_before.Goals as goal

pub returns-in-true-true : goal.returns-in-true-true
returns-in-true-true c =
    let a = c.args.a in
    let b = c.args.b in
    made_both stamp_kind.before _ _ _ _ _ (sym c.in-true-true.ensures) (sym c.in-true-true.ensures') (λ p q. c.first_before.ensures ∙ by_parts a.1 b.1 (nat_lt a.0 b.0))

pub returns-in-false-false : goal.returns-in-false-false
returns-in-false-false c =
    made_neither stamp_kind.before _ _ _ _ _ (sym c.in-false-false.ensures) (sym c.in-false-false.ensures') c.first_before-in-false-false.ensures
