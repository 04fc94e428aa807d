use Rattle.keys.proofs.WordLaws.{in_words_ordered}
use Rattle.keys.specs.InWords.{in_words}
use Rattle.std.proofs.Common.{[], arith}
use Rattle.fixed_vec.specs.Items.{items}
use Rattle.leaves.proofs.AscentLaws.{ascending_folded}
use Rattle.leaves.proofs.RunLaws.{length_delete}
use Rattle.leaves.proofs.leaf.change.remove_from.Goals as goal

pub take_key-requires : goal.take_key-requires
take_key-requires g c =
    let up = ascending_folded (in_words g.K.Key.kind) (in_words_ordered g.K.Key.kind g.met.K.Key.ordered g.met.K.Key.formed) [] (items c.args.elements.now) tt in
    rw c.load-run.ensures.value up

pub returns-clause-fits : goal.returns-clause-fits
returns-clause-fits g c = grind (arith, length_delete)
