use Rattle.keys.specs.InWords.{in_words}
use Rattle.std.proofs.Common.{◌≡◌, [], drop}
use Rattle.leaves.specs.Pairs.{first_after, folded}
use Rattle.leaves.proofs.leaf.sorted.next.Given as goal

abbrev pub invariant-loop-slot : goal.invariant-loop-slot
invariant-loop-slot g l = l.best ≡ first_after (in_words g.K.Key.kind) l.key (folded (in_words g.K.Key.kind) [] (drop l.slot l.elements))
