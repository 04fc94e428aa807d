use Rattle.std.proofs.Common.{◌≡◌, ◌+◌, ◌<◌, length, refl, ◌∙◌, arith, rules}
use Rattle.std.proofs.lemmas.Result.{err_from_is_err_and}
use Rattle.std.specs.Slice.Iter.{chunks_rest}
use Rattle.writes.proofs.Onward.{lines_go_on, lines_stop, lines_end}
use Rattle.rewrites.proofs.CodeLaws.{line_less, line_over, line_turn}
use Rattle.rewrites.proofs.write_pairs.Goals as goal

pub loop-two-init : goal.loop-two-init
loop-two-init g c =
    rw (c.into_iter-two-iterator.ensures.into_iter_gives, c.chunks-two-items.ensures.rest)
    (search rules, tt, search rules, omega arith, λ _ _. (λ _. refl, refl))

pub write_two-requires : goal.write_two-requires
write_two-requires g c =
    let inv = c.loop-two.invariant in
    let step = c.in-Some.ensures.steps.1 in
    let less = line_less (chunks_rest c.loop-two.two-iterator) c.in-Some.two.now (chunks_rest c.next.new.self) step.0 (rw inv.2 at step.1) step.2 in
    less.2

pub returns-in_err-write_two : goal.returns-in_err-write_two
returns-in_err-write_two g c =
    let p = err_from_is_err_and c.from_residual.result c.from_residual.ensures.1 in
    let inv = c.loop-two.invariant in
    let step = c.in-Some.ensures.steps.1 in
    let few = c.in_err-write_two.ensures.few in
    let less = line_less (chunks_rest c.loop-two.two-iterator) c.in-Some.two.now (chunks_rest c.next.new.self) step.0 (rw inv.2 at step.1) step.2 in
    record {
      done = λ fits counted.
          let now = inv.4 fits counted in
          let place = now.0 step.2 in
          rw (p.1, p.2)
          (lines_stop _ _ _ _ now.1 _ _ _ _ _
          (line_turn c.loop-two.at (c.loop-two.at + 8) (chunks_rest c.loop-two.two-iterator) c.in-Some.two.now (chunks_rest c.next.new.self) step.0 (rw inv.2 at step.1) step.2 (λ _. refl))
          (c.in_err-write_two.ensures.done (omega arith) (omega arith)));
      few = omega arith;
    }

pub loop-two-preserved : goal.loop-two-preserved
loop-two-preserved g c =
    let inv = c.loop-two.invariant in
    let step = c.in-Some.ensures.steps.1 in
    let few = c.in_ok-write_two.ensures.few in
    let less = line_less (chunks_rest c.loop-two.two-iterator) c.in-Some.two.now (chunks_rest c.next.new.self) step.0 (rw inv.2 at step.1) step.2 in (
      search rules,
      tt,
      c.in-Some.ensures.steps.0 ∙ inv.2,
      omega arith,
      λ fits counted.
          let now = inv.4 fits counted in
          let place = now.0 step.2 in
          let more : 0 < length (chunks_rest c.next.new.self) → c.saturating_add-at.result ≡ c.loop-two.at + 8 = λ h. omega arith in (
            λ h. omega (arith, more h),
            lines_go_on _ _ _ _ now.1 _ _ _ _
                (line_turn c.loop-two.at c.saturating_add-at.result (chunks_rest c.loop-two.two-iterator) c.in-Some.two.now (chunks_rest c.next.new.self) step.0 (rw inv.2 at step.1) step.2 more)
                (c.in_ok-write_two.ensures.done (omega arith) (omega arith)),
          ),
    )

pub returns : goal.returns
returns g c =
    let inv = c.loop-two.invariant in
    let none = c.in-None.ensures.steps.1.0 in
    record {
      done = λ fits counted. lines_end _ _ _ _ (inv.4 fits counted).1 (line_over c.loop-two.at (chunks_rest c.loop-two.two-iterator) none);
      few = omega arith;
    }
