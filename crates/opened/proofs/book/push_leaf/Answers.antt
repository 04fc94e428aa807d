use Rattle.std.proofs.Common.{◌∙◌}
use Rattle.keys.specs.InWords.{in_words}
use Rattle.opened.proofs.OpenedLaws.{pushed}
use Rattle.opened.proofs.book.push_leaf.Goals as goal

pub returns-clause-pairs : goal.returns-clause-pairs
returns-clause-pairs g c =
    let o = in_words g.K.Key.kind in
    let m = (g.M.Memory.meaning c.args.memory.now).live in
    let run = c.as_slice.ensures.value ∙ c.pairs_of-run.ensures.value in
    pushed o m c.args.leaf c.in-Ok.elements _ _ _ c.in-Ok.ensures.value run c.extend_from_slice.result c.extend_from_slice.ensures.items
