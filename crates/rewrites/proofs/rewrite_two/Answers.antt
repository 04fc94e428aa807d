use Rattle.std.proofs.Common.{sym, arith}
use Rattle.std.proofs.lemmas.Result.{err_from_is_err_and}
use Rattle.writes.proofs.Onward.{counted_done, counted_stop}
use Rattle.rewrites.proofs.CallLaws.{shared_parts}
use Rattle.rewrites.proofs.rewrite_two.Goals as goal

pub returns-in_err-write_leaf-clause-done : goal.returns-in_err-write_leaf-clause-done
returns-in_err-write_leaf-clause-done g c shares place room =
    let h = shared_parts _ _ _ _ shares in
    let p = err_from_is_err_and c.from_residual.result c.from_residual.ensures.1 in
    let front = c.split_at.ensures.front in
    rw (p.1, p.2, sym front) (counted_stop _ _ _ _ _ _ _ (c.in_err-write_leaf.ensures.done h.left_some h.left_most (omega (arith, h.first, c.split_at.ensures.front_len)) (omega (arith, h.first, c.split_at.ensures.front_len))))

pub returns-in_err-write_leaf-2-clause-done : goal.returns-in_err-write_leaf-2-clause-done
returns-in_err-write_leaf-2-clause-done g c shares place room =
    let h = shared_parts _ _ _ _ shares in
    let p = err_from_is_err_and c.from_residual-in_err-write_leaf-2.result c.from_residual-in_err-write_leaf-2.ensures.1 in
    let long = c.split_at.ensures.front_len in
    let rest = c.split_at.ensures.back_len in
    let steps = c.in_ok-write_leaf.ensures.few in
    rw (p.1, p.2, sym c.split_at.ensures.front, sym c.split_at.ensures.back)
    (counted_done _ _ _ _ _ _ _ (c.in_ok-write_leaf.ensures.done h.left_some h.left_most (omega (arith, h.first, long)) (omega (arith, h.first, long)))
    (counted_stop _ _ _ _ _ _ _ (c.in_err-write_leaf-2.ensures.done h.right_some h.right_most (omega (arith, h.others, rest)) (omega (arith, h.all, h.part, long, rest, steps)))))

pub returns-clause-done : goal.returns-clause-done
returns-clause-done g c shares place room =
    let h = shared_parts _ _ _ _ shares in
    let long = c.split_at.ensures.front_len in
    let rest = c.split_at.ensures.back_len in
    let steps = c.in_ok-write_leaf.ensures.few in
    let more = c.in_ok-write_leaf-2.ensures.few in
    rw (sym c.split_at.ensures.front, sym c.split_at.ensures.back)
    (counted_done _ _ _ _ _ _ _ (c.in_ok-write_leaf.ensures.done h.left_some h.left_most (omega (arith, h.first, long)) (omega (arith, h.first, long)))
    (counted_done _ _ _ _ _ _ _ (c.in_ok-write_leaf-2.ensures.done h.right_some h.right_most (omega (arith, h.others, rest)) (omega (arith, h.all, h.part, long, rest, steps)))
    (c.link.ensures.done place (omega (arith, h.all, h.part, long, rest, steps, more)))))
