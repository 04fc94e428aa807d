use Rattle.keys.proofs.WordLaws.{in_words_ordered}
use Rattle.keys.specs.InWords.{in_words}
use Rattle.std.proofs.Common.{◌-◌, sym, ◌∙◌, arith}
use Rattle.std.proofs.lemmas.List.Sums.{prefix_len-le-length}
use Rattle.leaves.specs.declared.leaf.Pair.{Pair}
use Rattle.leaves.proofs.RunLaws.{place_past, place_within}
use Rattle.leaves.proofs.leaf.sorted.place_of_key.Goals as goal

pub loop-below-init : goal.loop-below-init
loop-below-init g c = prefix_len-le-length (λ (p : Pair). (in_words g.K.Key.kind).before p.key (g.K.Key.kind.form c.args.key.now)) c.args.pairs.now

pub returns-then-stands_before : goal.returns-then-stands_before
returns-then-stands_before g c =
    let o = in_words g.K.Key.kind in
    let ordered = in_words_ordered g.K.Key.kind g.met.K.Key.ordered g.met.K.Key.formed in
    let l = c.loop-below in
    let past = place_past o ordered (g.K.Key.kind.form c.args.key.now) c.args.pairs.now (l.below - 1) _ c.requires (omega (arith, c.loop-below-test.true, l.auto.below)) (sym c.stands_before.ensures ∙ c.if-stands_before.true) in
    omega (arith, past, l.invariant, c.loop-below-test.true)

pub loop-below-preserved : goal.loop-below-preserved
loop-below-preserved g c =
    let o = in_words g.K.Key.kind in
    place_within o (g.K.Key.kind.form c.args.key.now) c.args.pairs.now (c.loop-below.below - 1) _ (sym c.stands_before.ensures ∙ c.if-stands_before.false)
