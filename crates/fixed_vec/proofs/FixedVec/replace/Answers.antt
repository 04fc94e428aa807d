use Rattle.std.proofs.Math.Seq.{take-set-lt}
use Rattle.fixed_vec.proofs.FixedVec.replace.Goals as goal

pub returns-clause-list : goal.returns-clause-list
returns-clause-list g c = take-set-lt c.args.self.now.len c.args.self.now.slots c.args.at _ c.if-at-self.false
