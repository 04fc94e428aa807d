use Rattle.std.proofs.Common.{arith}
use Rattle.std.proofs.lemmas.Result.{err_from_is_err_and}
use Rattle.writes.proofs.Onward.{row_more, row_none, goes_on, stops, ends, ends_refused, row_start}
use Rattle.writes.proofs.write_row.Goals as goal

pub loop-i-init : goal.loop-i-init
loop-i-init g c = (omega arith, λ _ _. (omega arith, row_start _ _ _ _))

pub returns-in_err-store : goal.returns-in_err-store
returns-in_err-store g c =
    let p = err_from_is_err_and c.from_residual.result c.from_residual.ensures.1 in
    record {
      done = λ fits counted. rw (p.1, p.2)
          (stops _ _ _ _ _ (c.loop-i.invariant.1 fits counted).1 _ _ (row_more _ _ _ c.loop-i-test.true) c.saturating_add.result _ (g.M.Memory.meaning c.store.new.self)
          (omega arith) c.in_err-store.ensures.answer c.in_err-store.ensures.after);
      few = omega arith;
    }

pub loop-i-preserved : goal.loop-i-preserved
loop-i-preserved g c = (
  omega arith,
  λ fits counted.
      let before = c.loop-i.invariant.1 fits counted in (
        omega arith,
        goes_on _ _ _ _ _ before.1 _ _ (row_more _ _ _ c.loop-i-test.true) c.saturating_add.result _ (g.M.Memory.meaning c.store.new.self)
            (omega arith) c.in_ok-store.ensures.answer c.in_ok-store.ensures.after (omega arith),
      ),
)

pub returns-in_err-flush : goal.returns-in_err-flush
returns-in_err-flush g c =
    let p = err_from_is_err_and c.from_residual-in_err-flush.result c.from_residual-in_err-flush.ensures.1 in
    record {
      done = λ fits counted. rw (p.1, p.2)
          (ends_refused _ _ _ _ _ (c.loop-i.invariant.1 fits counted).1 (row_none _ _ _ c.loop-i-test.false) _ (g.M.Memory.meaning c.flush.new.self)
          c.in_err-flush.ensures.answer c.in_err-flush.ensures.after);
      few = omega arith;
    }

pub returns : goal.returns
returns g c = record {
  done = λ fits counted.
      let before = c.loop-i.invariant.1 fits counted in
      ends _ _ _ _ _ before.1 (row_none _ _ _ c.loop-i-test.false) c.saturating_add-2.result (g.M.Memory.meaning c.flush.new.self)
      c.in_ok-flush.ensures.answer c.in_ok-flush.ensures.after (omega arith);
  few = omega arith;
}
