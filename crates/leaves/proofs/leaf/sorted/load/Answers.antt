use Rattle.keys.proofs.WordLaws.{in_words_ordered}
use Rattle.keys.specs.InWords.{in_words}
use Rattle.std.proofs.Common.{[], length, length-take, take, ap, arith}
use Rattle.fixed_vec.specs.Items.{items}
use Rattle.std.proofs.lemmas.Grind.{common_steps}
use Rattle.leaves.proofs.AscentLaws.{ascending_folded}
use Rattle.leaves.proofs.RunLaws.{length_folded}
use Rattle.leaves.proofs.leaf.sorted.load.Goals as goal

pub apply-requires : goal.apply-requires
apply-requires g c =
    let l = c.loop-e in
    let up = ascending_folded (in_words g.K.Key.kind) (in_words_ordered g.K.Key.kind g.met.K.Key.ordered g.met.K.Key.formed) [] (take l.e-index (items c.args.elements.now)) tt in
    record { few = grind (arith, common_steps, length_folded); ascending = rw l.invariant up }

pub returns-clause-fits : goal.returns-clause-fits
returns-clause-fits g c =
    let l = c.loop-e in
    let few = length_folded (in_words g.K.Key.kind) [] (take l.e-index (items c.args.elements.now)) in
    let front = length-take l.e-index (items c.args.elements.now) in
    omega (arith, ap length l.invariant, ap length c.as_slice-e-items.ensures.value, c.as_slice-e-items.ensures.fits)
