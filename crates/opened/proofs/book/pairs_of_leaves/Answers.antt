use Rattle.std.proofs.Common.{ap, ◌∙◌}
use Rattle.keys.specs.InWords.{in_words}
use Rattle.memory.specs.Meaning.{Words}
use Rattle.opened.proofs.OpenedLaws.{leaf_more}
use Rattle.opened.proofs.book.pairs_of_leaves.Goals as goal

pub loop-leaf-preserved : goal.loop-leaf-preserved
loop-leaf-preserved g c =
    let o = in_words g.K.Key.kind in
    let m = (g.M.Memory.meaning c.args.memory.now).live in
    let l = c.loop-leaf in
    let now = ap (λ (w : Words). w.live) l.invariant.0 in (
      c.push_leaf.ensures.same ∙ l.invariant.0,
      leaf_more o m _ c.args.leaves.now l.leaf-index _ _ now c.loop-leaf-test.true c.requires l.invariant.1 c.in_ok-push_leaf.ensures.pairs,
    )
