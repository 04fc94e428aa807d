use Rattle.keys.proofs.WordLaws.{in_words_ordered}
use Rattle.keys.specs.InWords.{in_words}
use Rattle.std.proofs.Common.{arith}
use Rattle.leaves.proofs.ElementLaws.{lookup_folded}
use Rattle.leaves.proofs.leaf.check.good.Goals as goal

pub returns-then-after : goal.returns-then-after
returns-then-after g c =
    let read = lookup_folded (in_words g.K.Key.kind) (in_words_ordered g.K.Key.kind g.met.K.Key.ordered g.met.K.Key.formed) c.args.e.key c.args.older.now in
    grind arith
