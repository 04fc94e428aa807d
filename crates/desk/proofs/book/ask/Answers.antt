use Rattle.std.proofs.Common.{rules}
use Rattle.desk.proofs.AnswerLaws.{fresh}
use Rattle.desk.proofs.book.ask.Goals as goal

pub returns-in_err-node-in-Node-clause-answer : goal.returns-in_err-node-in-Node-clause-answer
returns-in_err-node-in-Node-clause-answer g c sound =
    let new = c.new-record in
    rw c.in-Node.is
    (c.node.new.out, fresh c.args.book.now.state c.in-Node.node new.result c.node.new.out c.node.ensures.filled new.ensures.holds new.ensures.numbers new.ensures.bounds, search rules)

pub returns-in_ok-node-in-Node-clause-answer : goal.returns-in_ok-node-in-Node-clause-answer
returns-in_ok-node-in-Node-clause-answer g c sound =
    let new = c.new-record in
    rw c.in-Node.is
    (c.node.new.out, fresh c.args.book.now.state c.in-Node.node new.result c.node.new.out c.node.ensures.filled new.ensures.holds new.ensures.numbers new.ensures.bounds, search rules)
