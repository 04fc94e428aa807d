use Rattle.std.proofs.Common.{arith}
use Rattle.std.proofs.lemmas.Result.{err_from_is_err_and}
use Rattle.writes.proofs.Onward.{counted_done, counted_stop}
use Rattle.tree.proofs.logbook.format.write_book.Goals as goal

pub returns-in_err-write_row : goal.returns-in_err-write_row
returns-in_err-write_row g c steps =
    let p = err_from_is_err_and c.from_residual.result c.from_residual.ensures.1 in
    rw (p.1, p.2) (counted_stop _ _ _ _ _ _ _ (c.in_err-write_row.ensures.done (omega arith) (omega arith)))

pub returns-in_err-write_row-2 : goal.returns-in_err-write_row-2
returns-in_err-write_row-2 g c steps =
    let p = err_from_is_err_and c.from_residual-in_err-write_row-2.result c.from_residual-in_err-write_row-2.ensures.1 in
    let few = c.in_ok-write_row.ensures.few in
    rw (p.1, p.2)
    (counted_done _ _ _ _ _ _ _ (c.in_ok-write_row.ensures.done (omega arith) (omega arith))
    (counted_stop _ _ _ _ _ _ _ (c.in_err-write_row-2.ensures.done (omega arith) (omega (arith, few)))))

pub returns-in_err-write_row-3 : goal.returns-in_err-write_row-3
returns-in_err-write_row-3 g c steps =
    let p = err_from_is_err_and c.from_residual-in_err-write_row-3.result c.from_residual-in_err-write_row-3.ensures.1 in
    let few = c.in_ok-write_row.ensures.few in
    let few-2 = c.in_ok-write_row-2.ensures.few in
    rw (p.1, p.2)
    (counted_done _ _ _ _ _ _ _ (c.in_ok-write_row.ensures.done (omega arith) (omega arith))
    (counted_done _ _ _ _ _ _ _ (c.in_ok-write_row-2.ensures.done (omega arith) (omega (arith, few)))
    (counted_stop _ _ _ _ _ _ _ (c.in_err-write_row-3.ensures.done (omega arith) (omega (arith, few, few-2))))))

pub returns : goal.returns
returns g c steps =
    let few = c.in_ok-write_row.ensures.few in
    let few-2 = c.in_ok-write_row-2.ensures.few in
    let few-3 = c.in_ok-write_row-3.ensures.few in
    counted_done _ _ _ _ _ _ _ (c.in_ok-write_row.ensures.done (omega arith) (omega arith))
    (counted_done _ _ _ _ _ _ _ (c.in_ok-write_row-2.ensures.done (omega arith) (omega (arith, few)))
    (counted_done _ _ _ _ _ _ _ (c.in_ok-write_row-3.ensures.done (omega arith) (omega (arith, few, few-2)))
    (c.write_row-4.ensures.done (omega arith) (omega (arith, few, few-2, few-3)))))
