use Rattle.std.proofs.Common.{◌≡◌}
use Rattle.leaves.specs.Layout.{elements}
use Rattle.leaves.specs.Pairs.{latest}
use Rattle.leaves.proofs.leaf.read.find_by_reads.Given as goal

abbrev pub invariant-loop-slot : goal.invariant-loop-slot
invariant-loop-slot g l =
    (g.M.Memory.meaning l.memory ≡ g.M.Memory.meaning l.initial.memory)
    × (latest l.key (elements (g.M.Memory.meaning l.initial.memory).live l.leaf l.count) ≡ latest l.key (elements (g.M.Memory.meaning l.initial.memory).live l.leaf l.slot))
