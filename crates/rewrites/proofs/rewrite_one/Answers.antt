use Rattle.std.proofs.Common.{arith}
use Rattle.std.proofs.lemmas.Result.{err_from_is_err_and}
use Rattle.writes.proofs.Onward.{counted_done, counted_stop}
use Rattle.rewrites.proofs.rewrite_one.Goals as goal

pub returns-in_err-write_leaf-clause-done : goal.returns-in_err-write_leaf-clause-done
returns-in_err-write_leaf-clause-done g c some most few place room =
    let p = err_from_is_err_and c.from_residual.result c.from_residual.ensures.1 in
    rw (p.1, p.2) (counted_stop _ _ _ _ _ _ _ (c.in_err-write_leaf.ensures.done some most few (omega arith)))

pub returns-clause-done : goal.returns-clause-done
returns-clause-done g c some most few place room =
    let steps = c.in_ok-write_leaf.ensures.few in
    counted_done _ _ _ _ _ _ _ (c.in_ok-write_leaf.ensures.done some most few (omega arith)) (c.link.ensures.done place (omega arith))
