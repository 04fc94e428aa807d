use Rattle.keys.proofs.WordLaws.{in_words_ordered}
use Rattle.keys.specs.InWords.{in_words}
use Rattle.std.proofs.Common.{[], sym, ap, ◌∙◌}
use Rattle.fixed_vec.specs.Items.{items}
use Rattle.leaves.specs.Pairs.{folded, insert}
use Rattle.leaves.proofs.AscentLaws.{ascending_folded}
use Rattle.leaves.proofs.NextLaws.{insert_deleted}
use Rattle.leaves.proofs.leaf.change.change_in.Goals as goal

pub put_pair-requires : goal.put_pair-requires
put_pair-requires g c =
    let up = ascending_folded (in_words g.K.Key.kind) (in_words_ordered g.K.Key.kind g.met.K.Key.ordered g.met.K.Key.formed) [] (items c.args.elements.now) tt in
    record { few = c.load-run.ensures.fits; ascending = rw c.load-run.ensures.value up }

pub returns : goal.returns
returns g c =
    let o = in_words g.K.Key.kind in
    let ordered = in_words_ordered g.K.Key.kind g.met.K.Key.ordered g.met.K.Key.formed in
    let ps = folded o [] (items c.args.elements.now) in
    c.put_pair.ensures ∙ ap (insert o c.args.pair) c.load-run.ensures.value ∙ sym (insert_deleted o ordered c.args.pair ps (ascending_folded o ordered [] (items c.args.elements.now) tt))
