use Rattle.std.proofs.Common.{arith}
use Rattle.std.proofs.lemmas.Bool.Decides.{nat_tests}
use Rattle.leaves.proofs.ElementLaws.{bad_from, greatest_reduced}
use Rattle.leaves.proofs.leaf.check.check.Goals as goal

pub returns-clause-value : goal.returns-clause-value
returns-clause-value g c = grind (arith, nat_tests, bad_from, greatest_reduced)
