use Rattle.std.proofs.Common.{arith}
use Rattle.std.proofs.lemmas.Result.{err_from_is_err_and}
use Rattle.writes.proofs.Onward.{counted_stop, counted_done}
use Rattle.appends.proofs.append.Goals as goal

pub returns-in_err-write_elements-clause-done : goal.returns-in_err-write_elements-clause-done
returns-in_err-write_elements-clause-done g c least most room counted =
    let p = err_from_is_err_and c.from_residual.result c.from_residual.ensures.1 in
    rw (p.1, p.2) (counted_stop _ _ _ _ _ _ _ (c.in_err-write_elements.ensures.done (omega arith)))

pub returns-clause-done : goal.returns-clause-done
returns-clause-done g c least most room counted =
    let few = c.in_ok-write_elements.ensures.few in
    let last = c.write_row.ensures.done (omega arith) (omega arith) in
    counted_done _ _ _ _ _ _ _ (c.in_ok-write_elements.ensures.done (omega arith)) (rw c.start_of.ensures at last)
