use Rattle.std.proofs.Common.{◌∙◌, ap, rules, tests}
use Rattle.std.proofs.lemmas.Iterator.{YieldsList-from_slice}
use Rattle.std.proofs.lemmas.Iterator.Search.{any_from_yields_List}
use Rattle.std.specs.Prelude.{◌==◌}
use Rattle.index.specs.declared.node.Entry.{Entry}
use Rattle.index.specs.Nodes.{holds}
use Rattle.index.proofs.table.list.has_leaf.Goals as goal

pub returns : goal.returns
returns c =
    any_from_yields_List (λ (e : Entry). e.to == c.args.leaf) _ _ c.any.result c.any.ensures.ran (YieldsList-from_slice c.as_slice.result.now cc) (λ x b q k. search (rules, tests))
    ∙ ap (holds c.args.leaf) c.as_slice.ensures.value
