use Rattle.keys.proofs.WordLaws.{in_words_ordered}
use Rattle.keys.specs.InWords.{in_words}
use Rattle.std.proofs.Common.{[]}
use Rattle.fixed_vec.specs.Items.{items}
use Rattle.leaves.proofs.AscentLaws.{ascending_folded}
use Rattle.leaves.proofs.leaf.change.put_into.Goals as goal

pub put_pair-requires : goal.put_pair-requires
put_pair-requires g c =
    let up = ascending_folded (in_words g.K.Key.kind) (in_words_ordered g.K.Key.kind g.met.K.Key.ordered g.met.K.Key.formed) [] (items c.args.elements.now) tt in
    record { few = c.load-after.ensures.fits; ascending = rw c.load-after.ensures.value up }
