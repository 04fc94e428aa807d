use Rattle.std.proofs.Common.{◌∙◌, ap, rules, tests}
use Rattle.std.proofs.lemmas.Iterator.{YieldsList-from_slice}
use Rattle.std.proofs.lemmas.Iterator.Search.{any_from_yields_List}
use Rattle.index.specs.declared.node.Node.{Node}
use Rattle.index.specs.Nodes.{holds, items}
use Rattle.index.specs.Search.{concat}
use Rattle.index.proofs.FlatLaws.{holds_grouped}
use Rattle.index.proofs.table.Index.holds.Goals as goal

pub returns : goal.returns
returns c =
    let nodes = c.groups.result.now in
    any_from_yields_List (λ (n : Node). holds c.args.leaf (items n)) _ _ c.any.result c.any.ensures.ran (YieldsList-from_slice nodes cc) (λ x b q k. search (rules, tests))
    ∙ holds_grouped c.args.leaf nodes ∙ ap (λ gs. holds c.args.leaf (concat gs)) c.groups.ensures
