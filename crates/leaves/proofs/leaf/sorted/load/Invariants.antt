use Rattle.keys.specs.InWords.{in_words}
use Rattle.std.proofs.Common.{◌≡◌, [], take}
use Rattle.fixed_vec.specs.Items.{items}
use Rattle.leaves.specs.Pairs.{folded}
use Rattle.leaves.proofs.leaf.sorted.load.Given as goal

abbrev pub invariant-loop-e : goal.invariant-loop-e
invariant-loop-e g l = items l.run ≡ folded (in_words g.K.Key.kind) [] (take l.e-index (items l.elements))
