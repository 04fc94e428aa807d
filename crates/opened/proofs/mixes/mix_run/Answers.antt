use Rattle.std.proofs.Common.{ap, ◌∙◌}
use Rattle.opened.specs.Mixes.{next_digit}
use Rattle.opened.proofs.MixLaws.{run_more}
use Rattle.opened.proofs.mixes.mix_run.Goals as goal

pub loop-i-preserved : goal.loop-i-preserved
loop-i-preserved c =
    let l = c.loop-i in
    let next = c.choice_of-choice in
    let chosen = next.ensures ∙ ap (λ b. next_digit b l.digits) c.is_unsettled.ensures in
    run_more c.args.live.now c.args.firm.now l.run.items _ _ l.i l.digits c.loop-i-test.true l.invariant next.result chosen c.in_ok-push.ensures.items
