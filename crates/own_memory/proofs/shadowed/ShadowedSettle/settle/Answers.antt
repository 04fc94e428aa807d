use Rattle.std.proofs.Common.{arith}
use Rattle.memory.proofs.Facts.{after_refused_settle}
use Rattle.own_memory.specs.Shadowed.{shadowed_words}
use Rattle.own_memory.proofs.Copied.{settle_after, settle_granted, settle_more, shadowed_free, too_few}
use Rattle.own_memory.proofs.shadowed.ShadowedSettle.settle.Goals as goal

pub returns-then-choice : goal.returns-then-choice
returns-then-choice g c =
    let words = c.args.self.now.words in
    let steps = c.args.self.now.steps in
    let refused = too_few words c.args.choice.now steps (omega arith) in
    let after = after_refused_settle (shadowed_words words steps) c.args.choice.now c.args.steps refused in
    record { answer = refused; after = after; whole = after; free = shadowed_free words steps }

pub loop-i-preserved : goal.loop-i-preserved
loop-i-preserved g c =
    let h = c.loop-i.invariant in
    settle_more c.args.self.now.words c.loop-i.self.words c.args.choice.now c.loop-i.i c.settled.result _ (omega (arith, h.0)) c.settled.ensures.live c.settled.ensures.firm h

pub returns : goal.returns
returns g c =
    let words = c.args.self.now.words in
    let steps = c.args.self.now.steps in
    let granted = settle_granted words c.args.choice.now steps (omega arith) in
    let after = settle_after words c.loop-i.self.words c.args.choice.now steps c.args.steps c.loop-i.i (omega arith) granted c.loop-i.invariant in
    record { answer = granted; after = after; whole = after; free = shadowed_free words steps }
