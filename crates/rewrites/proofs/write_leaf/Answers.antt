use Rattle.std.proofs.Common.{◌+◌, ◌*◌, ◌-◌, length, arith}
use Rattle.std.proofs.lemmas.Result.{err_from_is_err_and}
use Rattle.rewrites.proofs.CodeLaws.{steps_long, leaf_stopped, leaf_ended}
use Rattle.rewrites.proofs.write_leaf.Goals as goal

pub returns-in_err-write_pairs-clause-done : goal.returns-in_err-write_pairs-clause-done
returns-in_err-write_pairs-clause-done g c some near few counted =
    let p = err_from_is_err_and c.from_residual.result c.from_residual.ensures.1 in
    let long = steps_long (length c.args.pairs.now) in
    rw (p.1, p.2)
    (leaf_stopped (g.M.Memory.meaning c.args.memory.now) (g.M.Memory.meaning c.write_pairs.new.memory) c.args.steps.now c.write_pairs.new.steps
    c.args.leaf c.args.next (8 + 72 * (c.args.leaf - 1) + 8) c.args.pairs.now (omega arith)
    (c.in_err-write_pairs.ensures.done (omega arith) (omega arith)))

pub returns-in_err-write_pairs-clause-few : goal.returns-in_err-write_pairs-clause-few
returns-in_err-write_pairs-clause-few g c =
    let long = steps_long (length c.args.pairs.now) in
    let few = c.in_err-write_pairs.ensures.few in
    omega arith

pub returns-clause-done : goal.returns-clause-done
returns-clause-done g c some near few counted =
    let long = steps_long (length c.args.pairs.now) in
    let most = c.in_ok-write_pairs.ensures.few in
    leaf_ended (g.M.Memory.meaning c.args.memory.now) (g.M.Memory.meaning c.write_pairs.new.memory) c.args.steps.now c.write_pairs.new.steps
    c.args.leaf c.args.next (8 + 72 * (c.args.leaf - 1) + 8) c.args.pairs.now (omega arith)
    (g.M.Memory.meaning c.write_row.new.memory) c.write_row.new.steps c.write_row.result
    (c.in_ok-write_pairs.ensures.done (omega arith) (omega arith)) (c.write_row.ensures.done (omega arith) (omega arith))

pub returns-clause-few : goal.returns-clause-few
returns-clause-few g c =
    let long = steps_long (length c.args.pairs.now) in
    let most = c.in_ok-write_pairs.ensures.few in
    let row = c.write_row.ensures.few in
    omega arith
