use Rattle.keys.specs.InWords.{in_words}
use Rattle.std.proofs.Common.{◌≡◌}
use Rattle.leaves.specs.Opening.{greatest}
use Rattle.leaves.proofs.leaf.read.greatest_by_reads.Given as goal

abbrev pub invariant-loop-slot : goal.invariant-loop-slot
invariant-loop-slot g l =
    (g.M.Memory.meaning l.memory ≡ g.M.Memory.meaning l.initial.memory)
    × (l.best ≡ greatest (in_words g.K.Key.kind) (g.M.Memory.meaning l.initial.memory).live l.leaf l.slot)
