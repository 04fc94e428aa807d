use Rattle.own_memory.proofs.Copied.{new_words}
use Rattle.own_memory.proofs.shadowed.Shadowed.new.Goals as goal

pub returns : goal.returns
returns g c = new_words g.row.N c.args.steps c.new.result c.new.ensures.live c.new.ensures.firm
