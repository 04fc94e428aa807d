use Rattle.std.proofs.Common.{arith}
use Rattle.own_memory.proofs.Copied.{flush_after, flush_granted, flush_more}
use Rattle.own_memory.proofs.shadowed.ShadowedMemory.flush.Goals as goal

pub loop-i-preserved : goal.loop-i-preserved
loop-i-preserved g c =
    let h = c.loop-i.invariant in
    (flush_more c.args.self.now.words c.loop-i.self.words c.args.line c.loop-i.i c.flushed.result _ (omega arith) (omega (arith, h.0.0)) c.flushed.ensures.live c.flushed.ensures.firm h.0, h.1)

pub returns-clause-after : goal.returns-clause-after
returns-clause-after g c =
    let h = c.loop-i.invariant in
    let granted = flush_granted c.args.self.now.words c.args.self.now.steps c.args.line (omega arith) c.if-self-eq0.false in
    let after = flush_after c.args.self.now.words c.loop-i.self.words c.args.self.now.steps c.args.line c.loop-i.i (omega arith) granted h.0 in
    rw h.1 after
