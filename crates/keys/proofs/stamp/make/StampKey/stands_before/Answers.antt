use Rattle.std.proofs.Common.{ℕ, sym, ap, ◌∙◌}
use Rattle.std.specs.Prelude.{is_some, nat_lt}
use Rattle.keys.specs.InWords.{numbers_before}
use Rattle.keys.specs.Stamps.{stamp_kind}
use Rattle.keys.specs.StampLaws.{formed}
use Rattle.keys.proofs.StampWords.{by_parts, made_both, made_first}
use Rattle.keys.proofs.stamp.make.StampKey.stands_before.Goals as goal

pub returns-then-is_packed : goal.returns-then-is_packed
returns-then-is_packed c =
    let w = c.args.words in
    let own = stamp_kind.form c.args.key.now in
    made_both stamp_kind.before _ _ _ _ _ (sym c.is_packed.ensures ∙ c.if-is_packed.true) (ap is_some (formed.back c.args.key.now))
    (λ p q. c.first_before.ensures ∙ ap (λ (k : ℕ × ℕ). numbers_before (w.1, w.0) (k.1, k.0)) c.pack-own.ensures ∙ by_parts w.1 own.1 (nat_lt w.0 own.0))

pub returns-else-is_packed : goal.returns-else-is_packed
returns-else-is_packed c =
    made_first stamp_kind.before _ _ _ _ _ (sym c.is_packed.ensures ∙ c.if-is_packed.false) (ap is_some (formed.back c.args.key.now)) c.if-is_packed.false
