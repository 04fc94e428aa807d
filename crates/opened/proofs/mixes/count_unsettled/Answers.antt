use Rattle.std.proofs.Common.{true, false, sym, ◌∙◌}
use Rattle.opened.proofs.MixLaws.{count_more}
use Rattle.opened.proofs.mixes.count_unsettled.Goals as goal
use Rattle.opened.proofs.mixes.count_unsettled.Goals.{then-is_unsettled, else-is_unsettled}

pub loop-i-preserved : goal.loop-i-preserved
loop-i-preserved c =
    let l = c.loop-i in
    elim c.if-is_unsettled.branch [
      | then-is_unsettled w ↦
          count_more c.args.live.now c.args.firm.now _ l.i l.count _ true c.loop-i-test.true (sym w.if-is_unsettled.true ∙ c.is_unsettled.ensures) w.count-is l.invariant
      | else-is_unsettled w ↦
          count_more c.args.live.now c.args.firm.now _ l.i l.count _ false c.loop-i-test.true (sym w.if-is_unsettled.false ∙ c.is_unsettled.ensures) w.count-is l.invariant
    ]
