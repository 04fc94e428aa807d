use Rattle.keys.specs.InWords.{in_words}
use Rattle.std.proofs.Common.{[], ◌∷◌, length, sym, ap, ◌∙◌, inl, inr, ◌-◌, arith}
use Rattle.std.proofs.lemmas.List.{length_push}
use Rattle.std.proofs.lemmas.Result.{err_from_is_err_and}
use Rattle.leaves.specs.Layout.{next_of}
use Rattle.leaves.specs.Opening.{leaves_of}
use Rattle.leaves.proofs.Kept.{live_same}
use Rattle.fixed_vec.proofs.Rooms.{joined_all}
use Rattle.std.proofs.lemmas.Bool.Decides.{nat_tests}
use Rattle.leaves.proofs.OpeningLaws.{walk_ended, walk_refused, fault_here, on_here}
use Rattle.leaves.proofs.open.walk.walk.Goals as goal
use Rattle.leaves.proofs.open.walk.walk.Goals.{then-len-leaves-via-then-len-leaves, then-len-leaves-via-else-len-leaves+then-leaf-leaves, then-len-leaves-via-else-len-leaves+else-leaf-leaves+then-contains}

pub returns-then-len-leaves-clause-value : goal.returns-then-len-leaves-clause-value
returns-then-len-leaves-clause-value g c =
    let l = c.loop-link in
    let refused = walk_refused (in_words g.K.Key.kind) (g.M.Memory.meaning c.args.memory.now).live (c.args.leaves - 1 - length (leaves_of l.chain)) (leaves_of l.chain) l.bound l.from l.link c.loop-link-test.true in
    elim c.then-len-leaves.branch [
      | then-len-leaves-via-then-len-leaves w ↦ sym (refused (inl (omega arith))) ∙ l.invariant.2
      | then-len-leaves-via-else-len-leaves+then-leaf-leaves w ↦ sym (refused (inr (grind (arith, nat_tests)))) ∙ l.invariant.2
      | then-len-leaves-via-else-len-leaves+else-leaf-leaves+then-contains w ↦ sym (refused (inr (grind (arith, nat_tests)))) ∙ l.invariant.2
    ]

pub returns-in_err-bound-clause-value : goal.returns-in_err-bound-clause-value
returns-in_err-bound-clause-value g c =
    let l = c.loop-link in
    let p = err_from_is_err_and c.from_residual.result c.from_residual.ensures.1 in
    rw (p.1, p.2)
    (fault_here (in_words g.K.Key.kind) (g.M.Memory.meaning c.args.memory.now).live c.args.leaves (leaves_of l.chain) l.bound l.from l.link l.invariant.2 c.loop-link-test.true (omega arith) (grind (arith, nat_tests))
    (live_same (c.word_at-next.ensures.same ∙ l.invariant.0)) ((rw c.start_of.ensures at c.word_at-next.ensures.value) ∙ ap (λ ws. next_of ws l.link) (live_same l.invariant.0)) c.eq-alone.ensures c.in_err-bound.ensures.value)

pub loop-link-preserved : goal.loop-link-preserved
loop-link-preserved g c =
    let l = c.loop-link in
    let used = leaves_of l.chain in
    let more = c.push.ensures.list ∙ joined_all 64 used (l.link ∷ []) (omega (arith, length_push used l.link)) in (
      c.check.ensures.same ∙ c.word_at-next.ensures.same ∙ l.invariant.0,
      omega (arith, ap length more, length_push used l.link),
      on_here (in_words g.K.Key.kind) (g.M.Memory.meaning c.args.memory.now).live c.args.leaves used l.bound l.from l.link l.invariant.2 c.loop-link-test.true (omega arith) (grind (arith, nat_tests))
          (live_same (c.word_at-next.ensures.same ∙ l.invariant.0)) ((rw c.start_of.ensures at c.word_at-next.ensures.value) ∙ ap (λ ws. next_of ws l.link) (live_same l.invariant.0)) c.eq-alone.ensures c.in_ok-bound.ensures.value more,
    )

pub returns-then-from-eq0-clause-value : goal.returns-then-from-eq0-clause-value
returns-then-from-eq0-clause-value g c = grind (arith, nat_tests, walk_ended)

pub returns-clause-value : goal.returns-clause-value
returns-clause-value g c = grind (arith, nat_tests, walk_ended)
