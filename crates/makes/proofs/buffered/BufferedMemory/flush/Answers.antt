use Rattle.std.proofs.Common.{ap, arith, rules}
use Rattle.makes.proofs.Runs.{flush_after, flush_rest}
use Rattle.makes.proofs.buffered.BufferedMemory.flush.Goals as goal

pub returns : goal.returns
returns c = record {
  answer = search rules;
  after =
      let e = flush_after c.args.self.now.live.now c.args.self.now.firm.now c.loop-i.self.firm.now c.args.self.now.steps c.args.line c.loop-i.i c.loop-i.invariant.2 (omega arith) (search rules) c.loop-i.invariant.3
      in cc;
  lent = (ap (λ x. x.ghost_name) c.loop-i.invariant.0, c.loop-i.invariant.4);
  rest =
      let e = flush_rest c.args.self.now.live.now c.args.self.now.firm.now c.loop-i.self.firm.now c.args.line c.loop-i.i c.loop-i.invariant.2 (omega arith) c.loop-i.invariant.3
      in cc;
}
