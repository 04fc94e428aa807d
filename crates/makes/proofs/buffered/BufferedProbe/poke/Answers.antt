use Rattle.std.proofs.Common.{rules}
use Rattle.makes.proofs.Runs.{poke_after}
use Rattle.makes.proofs.buffered.BufferedProbe.poke.Goals as goal

pub returns-clause-after : goal.returns-clause-after
returns-clause-after c =
    poke_after c.args.self.now.live.now c.args.self.now.firm.now c.args.self.now.steps c.args.at c.args.word (search rules)
