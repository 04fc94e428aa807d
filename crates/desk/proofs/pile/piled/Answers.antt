use Rattle.std.proofs.Common.{rules}
use Rattle.desk.proofs.PileLaws.{piles}
use Rattle.desk.proofs.pile.piled.Goals as goal

pub returns-clause-meaning : goal.returns-clause-meaning
returns-clause-meaning g c h =
    piles g.B.Memory.meaning c.args.layers.now c.new.result c.args.bottom (search rules) (search rules) (search rules) (search rules) (g.B.Memory.laws c.args.bottom) h
