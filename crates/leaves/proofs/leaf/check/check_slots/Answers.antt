use Rattle.keys.specs.InWords.{in_words}
use Rattle.std.proofs.Common.{ℕ, ◌<◌, Ok, Err, Option, length, ap, sym, ◌∙◌, arith}
use Rattle.fixed_vec.specs.Items.{items}
use Rattle.fixed_vec.proofs.Rooms.{one_granted}
use Rattle.leaves.specs.Layout.{elements}
use Rattle.leaves.specs.Opening.{checked, greatest_key}
use Rattle.leaves.proofs.ElementLaws.{slot_bad, slot_good, elements_joined, length_elements}
use Rattle.leaves.proofs.Kept.{live_same}
use Rattle.leaves.proofs.leaf.check.check_slots.Goals as goal

pub unwrap-requires : goal.unwrap-requires
unwrap-requires g c =
    let l = c.loop-slot in
    let long = ap length l.invariant.1 ∙ length_elements (g.M.Memory.meaning c.args.memory.now).live c.args.leaf l.slot in
    one_granted 16 (items l.read) c.push.ensures.answer (omega arith)

pub returns-then-not-good-clause-value : goal.returns-then-not-good-clause-value
returns-then-not-good-clause-value g c =
    let o = in_words g.K.Key.kind in
    let l = c.loop-slot in
    let top = greatest_key o (elements (g.M.Memory.meaning c.args.memory.now).live c.args.leaf c.args.count) in
    let bad = slot_bad o c.args.bound c.args.leaf l.slot c.args.count c.loop-slot-test.true l.invariant.2 (live_same l.invariant.0) (c.as_slice.ensures.value ∙ l.invariant.1) c.element-e.ensures.value c.good.ensures c.if-not-good.true in
    ap Err c.bad_leaf.ensures ∙ sym (ap (λ (f : Option ℕ). checked c.args.leaf f (Ok top)) bad)

pub loop-slot-preserved : goal.loop-slot-preserved
loop-slot-preserved g c =
    let l = c.loop-slot in
    let room : l.slot < 16 = omega arith in (
      c.element-e.ensures.same ∙ l.invariant.0,
      grind (arith, elements_joined),
      slot_good (in_words g.K.Key.kind) c.args.bound c.args.leaf l.slot c.args.count c.loop-slot-test.true l.invariant.2 (live_same l.invariant.0) (c.as_slice.ensures.value ∙ l.invariant.1) c.element-e.ensures.value c.good.ensures c.if-not-good.false,
    )
