use Rattle.std.proofs.Common.{◌≡◌}
use Rattle.fixed_vec.specs.Items.{items}
use Rattle.leaves.specs.Layout.{elements}
use Rattle.leaves.proofs.leaf.read.elements.Given as goal

abbrev pub invariant-loop-slot : goal.invariant-loop-slot
invariant-loop-slot g l =
    (g.M.Memory.meaning l.memory ≡ g.M.Memory.meaning l.initial.memory)
    × (items l.read ≡ elements (g.M.Memory.meaning l.initial.memory).live l.leaf l.slot)
