use Rattle.std.proofs.Common.{length, ap, ◌∙◌, arith}
use Rattle.fixed_vec.specs.Items.{items}
use Rattle.fixed_vec.proofs.Rooms.{one_granted}
use Rattle.leaves.proofs.ElementLaws.{elements_joined, length_elements}
use Rattle.leaves.proofs.leaf.read.elements.Goals as goal

pub unwrap-requires : goal.unwrap-requires
unwrap-requires g c =
    let l = c.loop-slot in
    let long = ap length l.invariant.1 ∙ length_elements (g.M.Memory.meaning c.args.memory.now).live c.args.leaf l.slot in
    one_granted 16 (items l.read) c.push.ensures.answer (omega arith)

pub loop-slot-preserved : goal.loop-slot-preserved
loop-slot-preserved g c = grind (arith, elements_joined)
