use Rattle.keys.proofs.WordLaws.{in_words_ordered}
use Rattle.keys.specs.InWords.{in_words}
use Rattle.leaves.proofs.BookLaws.{chained, opened}
use Rattle.leaves.proofs.open.walk.open.Goals as goal

pub returns-clause-chain : goal.returns-clause-chain
returns-clause-chain g c = chained (in_words g.K.Key.kind) (in_words_ordered g.K.Key.kind g.met.K.Key.ordered g.met.K.Key.formed) (g.M.Memory.meaning c.args.memory.now).live _ c.read_all.ensures.value

pub returns-clause-ascends : goal.returns-clause-ascends
returns-clause-ascends g c = opened (in_words g.K.Key.kind) (in_words_ordered g.K.Key.kind g.met.K.Key.ordered g.met.K.Key.formed) (g.M.Memory.meaning c.args.memory.now).live _ c.read_all.ensures.value
