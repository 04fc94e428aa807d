use Rattle.std.proofs.Common.{◌≡◌, ◌+◌, ◌-◌, sym, ◌∙◌, arith}
use Rattle.leaves.proofs.ElementLaws.{latest_newest, latest_others}
use Rattle.leaves.proofs.leaf.read.find_by_reads.Goals as goal

pub returns-then-is_of-clause-value : goal.returns-then-is_of-clause-value
returns-then-is_of-clause-value g c =
    let l = c.loop-slot in
    let one : l.slot - 1 + 1 ≡ l.slot = omega (arith, c.loop-slot-test.true) in
    let is = sym (rw l.invariant.0 at c.is_of.ensures.value) ∙ c.if-is_of.true in
    (rw (c.is_of.ensures.same ∙ l.invariant.0) at c.held_at.ensures.value)
    ∙ sym (latest_newest c.args.key (g.M.Memory.meaning c.args.memory.now).live c.args.leaf l.slot (l.slot - 1) one is) ∙ sym l.invariant.1

pub loop-slot-preserved : goal.loop-slot-preserved
loop-slot-preserved g c =
    let l = c.loop-slot in
    let one : l.slot - 1 + 1 ≡ l.slot = omega (arith, c.loop-slot-test.true) in
    let is = sym (rw l.invariant.0 at c.is_of.ensures.value) ∙ c.if-is_of.false in (
      c.is_of.ensures.same ∙ l.invariant.0,
      l.invariant.1 ∙ latest_others c.args.key (g.M.Memory.meaning c.args.memory.now).live c.args.leaf l.slot (l.slot - 1) one is,
    )
