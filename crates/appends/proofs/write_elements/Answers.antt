use Rattle.std.proofs.Common.{arith}
use Rattle.std.proofs.lemmas.Result.{err_from_is_err_and}
use Rattle.writes.proofs.Onward.{lines_go_on, lines_stop, lines_end}
use Rattle.appends.proofs.Writing.{slots_none, slots_more}
use Rattle.appends.proofs.write_elements.Goals as goal

pub returns-in_err-write_row-clause-done : goal.returns-in_err-write_row-clause-done
returns-in_err-write_row-clause-done g c counted =
    let p = err_from_is_err_and c.from_residual.result c.from_residual.ensures.1 in
    rw (p.1, p.2)
    (lines_stop _ _ _ _ (c.loop-i.invariant.1 counted) _ _ _ _ _
    (slots_more _ _ _ _ _ (0, 0) _ c.loop-i-test.true (omega arith))
    (c.in_err-write_row.ensures.done (omega arith) (omega arith)))

pub loop-i-preserved : goal.loop-i-preserved
loop-i-preserved g c = (
  let few = c.in_ok-write_row.ensures.few in omega arith,
  λ counted. lines_go_on _ _ _ _ (c.loop-i.invariant.1 counted) _ _ _ _
      (slots_more _ _ _ _ _ (0, 0) _ c.loop-i-test.true (omega arith))
      (c.in_ok-write_row.ensures.done (omega arith) (omega arith)),
)

pub returns-clause-done : goal.returns-clause-done
returns-clause-done g c counted = lines_end _ _ _ _ (c.loop-i.invariant.1 counted) (slots_none _ _ _ _ _ c.loop-i-test.false)
