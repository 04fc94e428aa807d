use Rattle.keys.specs.InWords.{in_words}
use Rattle.std.proofs.Common.{◌≤◌}
use Rattle.leaves.proofs.RunLaws.{smaller}
use Rattle.leaves.proofs.leaf.sorted.place_of_key.Given as goal

abbrev pub invariant-loop-below : goal.invariant-loop-below
invariant-loop-below g l = smaller (in_words g.K.Key.kind) (g.K.Key.kind.form l.key) l.pairs ≤ l.below
