use Rattle.std.proofs.Common.{◌∙◌, rules, tests, arith}
use Rattle.std.proofs.lemmas.Iterator.Adapters.{YieldsList-from_rev_slice}
use Rattle.std.proofs.lemmas.Iterator.Search.{find_from_yields_List}
use Rattle.leaves.specs.declared.leaf.Element.{Element}
use Rattle.leaves.specs.Pairs.{equal}
use Rattle.leaves.proofs.leaf.read.find.Goals as goal

pub returns : goal.returns
returns c =
    let newest = c.copied.ensures ∙ find_from_yields_List (λ (e : Element). equal e.key c.args.key) _ _ c.find.result c.find.ensures.ran (YieldsList-from_rev_slice c.args.elements.now cc) (λ x b q k. search (rules, tests)) in
    grind arith
