use Rattle.keys.proofs.WordLaws.{in_words_ordered}
use Rattle.keys.specs.InWords.{in_words}
use Rattle.std.proofs.Common.{arith}
use Rattle.leaves.proofs.ElementLaws.{lookup_pairs}
use Rattle.leaves.proofs.leaf.ask.find_in.Goals as goal

pub returns-clause-value : goal.returns-clause-value
returns-clause-value g c =
    grind (arith, lookup_pairs (in_words g.K.Key.kind) (in_words_ordered g.K.Key.kind g.met.K.Key.ordered g.met.K.Key.formed))
