use Rattle.std.proofs.Common.{◌≡◌, ◌<◌, length, get_or, ◌∙◌, arith, rules}
use Rattle.index.specs.Meaning.{grouped}
use Rattle.index.proofs.ChangeLaws.{group_count, node_group}
use Rattle.index.proofs.ListLaws.{item_is, leaf_is}
use Rattle.index.proofs.table.Index.entry.Goals as goal

pub returns : goal.returns
returns c =
    let gs = grouped c.args.self.now in
    let p = c.args.place in
    let nodes = c.groups.result.now in
    let node = c.in_ok-node.node.now in
    let below : p.group < length nodes = search rules in
    let is : node ≡ get_or nodes p.group node = search rules in
    let h : p.group < length gs = omega (arith, group_count nodes gs c.groups.ensures, below) in
    let item = c.get-2.ensures.lookup in
    c.copied.ensures ∙ item_is c.as_slice.result.now p.slot c.get-2.result item.0 item.1 ∙ leaf_is gs p h (c.as_slice.ensures.value ∙ node_group nodes gs p.group node node c.groups.ensures h is)
