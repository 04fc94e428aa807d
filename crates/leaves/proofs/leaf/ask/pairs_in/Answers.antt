use Rattle.std.proofs.Common.{arith}
use Rattle.leaves.proofs.ElementLaws.{pairs_folded}
use Rattle.leaves.proofs.leaf.ask.pairs_in.Goals as goal

pub returns-clause-value : goal.returns-clause-value
returns-clause-value g c = grind (arith, pairs_folded)
