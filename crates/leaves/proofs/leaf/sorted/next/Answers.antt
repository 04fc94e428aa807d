use Rattle.keys.proofs.WordLaws.{in_words_ordered}
use Rattle.keys.specs.InWords.{in_words}
use Rattle.std.proofs.Common.{◌≡◌, ◌+◌, ◌-◌, [], drop, sym, ap, ◌∙◌, arith}
use Rattle.std.proofs.lemmas.List.{take_rest}
use Rattle.leaves.specs.Pairs.{first_after, folded}
use Rattle.leaves.proofs.NextLaws.{next_turn}
use Rattle.leaves.proofs.leaf.sorted.next.Goals as goal

pub loop-slot-preserved : goal.loop-slot-preserved
loop-slot-preserved g c =
    let o = in_words g.K.Key.kind in
    let ordered = in_words_ordered g.K.Key.kind g.met.K.Key.ordered g.met.K.Key.formed in
    let es = c.args.elements.now in
    let l = c.loop-slot in
    let one : l.slot - 1 + 1 ≡ l.slot = omega (arith, c.loop-slot-test.true) in
    let best = l.invariant ∙ ap (λ n. first_after o c.args.key (folded o [] (drop n es))) (sym one) in
    (rw (best, take_rest es (l.slot - 1 + 1)) at c.nearest-best.ensures) ∙ sym (next_turn o ordered c.args.key es (l.slot - 1) _ (omega (arith, c.loop-slot-test.true, l.auto.slot)))
