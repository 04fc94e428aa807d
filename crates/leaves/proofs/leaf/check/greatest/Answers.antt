use Rattle.keys.specs.InWords.{in_words}
use Rattle.std.proofs.Common.{ℕ, cond, rules, tests}
use Rattle.std.proofs.lemmas.Iterator.{YieldsList-from_slice, YieldsList-from_map}
use Rattle.leaves.specs.declared.leaf.Element.{Element}
use Rattle.leaves.proofs.ReduceLaws.{reduced}
use Rattle.leaves.proofs.leaf.check.greatest.Goals as goal

pub returns : goal.returns
returns g c =
    reduced _ (λ (a b : ℕ × ℕ). cond ((in_words g.K.Key.kind).before a b) b a) c.reduce.result c.reduce.ensures.ran
    (YieldsList-from_map _ (λ (e : Element). e.key) (YieldsList-from_slice c.args.elements.now cc) c.map.ensures.closure (λ x r q k. search (rules, tests))) (λ a x b q k. search (rules, tests))
