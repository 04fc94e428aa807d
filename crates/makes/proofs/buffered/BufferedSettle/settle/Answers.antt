use Rattle.std.proofs.Common.{◌≡◌, ◌≤◌, ◌<◌, length, take, get_or, Err, sym, refl, ◌∙◌, arith, rules}
use Rattle.std.proofs.lemmas.List.{get_or-take, length-set, length-take-le}
use Rattle.refusal.specs.declared.Refusal.TheVariants.{WrongLength}
use Rattle.memory.specs.Meaning.{settle_answer}
use Rattle.memory.proofs.Facts.{after_refused_settle}
use Rattle.makes.specs.Makes.{buffered_words}
use Rattle.makes.proofs.Runs.{buffered_free, chosen_at, even, odd, settle_after, settle_rest, stays_more, still, written_more}
use Rattle.makes.proofs.buffered.BufferedSettle.settle.Goals as goal
use Rattle.makes.proofs.buffered.BufferedSettle.settle.Goals.{then-word-eq1, else-word-eq1}

pub loop-i-preserved : goal.loop-i-preserved
loop-i-preserved c =
    let n = c.shared-size.result in
    let all : length (take n c.args.choice.now) ≡ n = length-take-le n c.args.choice.now (omega arith) in
    let below : c.loop-i.i < n = omega (arith, all, c.loop-i-test.true) in
    let word : get_or (take n c.args.choice.now) c.loop-i.i 0 ≡ get_or c.args.choice.now c.loop-i.i 0 = get_or-take n c.args.choice.now c.loop-i.i 0 below in
    let live = c.args.self.now.live.now in
    let firm = c.args.self.now.firm.now in
    let choice = c.args.choice.now in
    let i = c.loop-i.i in
    let g = chosen_at live firm choice i _ word in
    let x = c.loop-i.self.live.now in
    let y = c.loop-i.self.firm.now in
    let inv = c.loop-i.invariant in
    let was-live = still g (λ k. get_or live k 0) i x inv.2 in
    let was-firm = still g (λ k. get_or firm k 0) i y inv.3 in
    elim c.if-word-eq1.branch [
      | then-word-eq1 w ↦
          let now = odd live firm choice i _ word w.if-word-eq1.true in
          rw w.self-is
          (inv.0, simp length-set inv.1, stays_more g _ i x now inv.2, written_more g _ i _ y (omega arith) (was-live ∙ sym now) inv.3, inv.4, inv.5)
      | else-word-eq1 w ↦
          let now = even live firm choice i _ word w.if-word-eq1.false in
          rw w.self-is
          (simp length-set inv.0, inv.1, written_more g _ i _ x (omega arith) (was-firm ∙ sym now) inv.2, stays_more g _ i y now inv.3, inv.4, inv.5)
    ]

pub returns : goal.returns
returns c =
    let n = c.shared-size.result in
    let all : length (take n c.args.choice.now) ≡ n = length-take-le n c.args.choice.now (omega arith) in
    let past : n ≤ c.loop-i.i = omega (arith, all, c.loop-i-test.false) in
    record {
      answer = search rules;
      after = settle_after c.args.self.now.live.now c.args.self.now.firm.now c.loop-i.self.live.now c.loop-i.self.firm.now c.args.choice.now c.args.self.now.steps c.args.steps c.loop-i.i c.loop-i.invariant.0 c.loop-i.invariant.1 (omega arith) (search rules) c.loop-i.invariant.2 c.loop-i.invariant.3;
      whole = settle_after c.args.self.now.live.now c.args.self.now.firm.now c.loop-i.self.live.now c.loop-i.self.firm.now c.args.choice.now c.args.self.now.steps c.args.steps c.loop-i.i c.loop-i.invariant.0 c.loop-i.invariant.1 (omega arith) (search rules) c.loop-i.invariant.2 c.loop-i.invariant.3;
      free = buffered_free c.args.self.now.live.now c.args.self.now.firm.now c.args.self.now.steps;
      lent = (c.loop-i.invariant.4, c.loop-i.invariant.5);
      rest = settle_rest c.args.self.now.live.now c.args.self.now.firm.now c.loop-i.self.live.now c.loop-i.self.firm.now c.args.choice.now c.loop-i.i c.loop-i.invariant.0 c.loop-i.invariant.1 (omega arith) c.loop-i.invariant.2 c.loop-i.invariant.3;
    }

pub returns-then-choice-size : goal.returns-then-choice-size
returns-then-choice-size c =
    let words = buffered_words c.args.self.now.live.now c.args.self.now.firm.now c.args.self.now.steps in
    let answer : Err WrongLength ≡ settle_answer words c.args.choice.now = search rules in
    let after = after_refused_settle words c.args.choice.now c.args.steps answer in record {
      answer = answer;
      after = after;
      whole = after;
      free = buffered_free c.args.self.now.live.now c.args.self.now.firm.now c.args.self.now.steps;
      lent = search rules;
      rest = refl;
    }
