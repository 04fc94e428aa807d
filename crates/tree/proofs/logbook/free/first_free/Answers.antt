use Rattle.std.proofs.Common.{◌++◌, sym, ◌∙◌}
use Rattle.index.specs.Meaning.{listed}
use Rattle.index.specs.Nodes.{numbers}
use Rattle.plans.proofs.FreeLaws.{free_here, free_later}
use Rattle.tree.proofs.logbook.free.first_free.Goals as goal

pub returns-then-not-is_used : goal.returns-then-not-is_used
returns-then-not-is_used c =
    let l = c.loop-below in
    sym (l.invariant ∙ free_here (c.args.also.now ++ numbers (listed c.args.index.now)) l.below c.args.high c.loop-below-test.true (sym c.is_used.ensures ∙ c.if-not-is_used.true))

pub loop-below-preserved : goal.loop-below-preserved
loop-below-preserved c =
    let l = c.loop-below in
    l.invariant ∙ free_later (c.args.also.now ++ numbers (listed c.args.index.now)) l.below c.args.high c.loop-below-test.true (sym c.is_used.ensures ∙ c.if-not-is_used.false)
