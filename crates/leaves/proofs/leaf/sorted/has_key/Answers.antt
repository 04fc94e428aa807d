use Rattle.std.proofs.Common.{rules, tests}
use Rattle.std.proofs.lemmas.Iterator.{YieldsList-from_slice}
use Rattle.std.proofs.lemmas.Iterator.Search.{any_from_yields_List}
use Rattle.leaves.specs.declared.leaf.Element.{Element}
use Rattle.leaves.specs.Pairs.{equal}
use Rattle.leaves.proofs.leaf.sorted.has_key.Goals as goal

pub returns : goal.returns
returns c =
    any_from_yields_List (λ (e : Element). equal e.key c.args.key) _ _ c.any.result c.any.ensures.ran (YieldsList-from_slice c.args.elements.now cc) (λ x b q k. search (rules, tests))
