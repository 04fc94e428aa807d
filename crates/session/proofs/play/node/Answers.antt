use Rattle.std.proofs.Common.{sym, ◌∙◌}
use Rattle.session.proofs.CarryLaws.{node_err, node_ok}
use Rattle.session.proofs.play.node.Goals as goal

pub returns-in-Ok : goal.returns-in-Ok
returns-in-Ok g c = node_ok c.args.logbook.now.state c.args.number c.node.new.out _ (sym c.node.ensures.answer ∙ c.in-Ok.is) c.node.ensures.filled

pub returns-in-Err : goal.returns-in-Err
returns-in-Err g c = node_err c.args.logbook.now.state c.args.number c.in-Err.refusal (sym c.node.ensures.answer ∙ c.in-Err.is)
