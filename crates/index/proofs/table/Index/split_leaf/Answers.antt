use Rattle.std.proofs.Common.{◌≡◌, length, sym, ap, ◌∙◌, arith}
use Rattle.std.proofs.lemmas.Bool.{cond-true, cond-false, lt-ltb, le-ltb}
use Rattle.index.specs.Nodes.{items}
use Rattle.index.specs.Search.{concat}
use Rattle.index.specs.Shape.{singles}
use Rattle.index.specs.Places.{group_of}
use Rattle.index.specs.Meaning.{grouped}
use Rattle.index.proofs.ChangeLaws.{node_group}
use Rattle.index.proofs.PlaceLaws.{Within}
use Rattle.index.proofs.ListLaws.{list_split, length_split, split_list, splits_parts}
use Rattle.index.proofs.KeepingLaws.{split_keeps}
use Rattle.index.proofs.table.Index.split_leaf.Goals.{After-index-groups-place}
use Rattle.index.proofs.table.Index.split_leaf.Goals as goal

-- The leaf is there, and the node is that of its group.
node_is : (c : After-index-groups-place) → Within (grouped c.args.self.now) c.args.place × (items c.index-groups-place.result ≡ group_of (grouped c.args.self.now) c.args.place)
node_is c =
    let gs = grouped c.args.self.now in
    let node = c.index-groups-place.result in
    let w = splits_parts gs c.args.place c.requires in
    (w.0, node_group c.groups.result.now gs c.args.place.group node node c.groups.ensures w.0.0 c.index-groups-place.is)

pub returns-then-len-lt5 : goal.returns-then-len-lt5
returns-then-len-lt5 c =
    let gs = grouped c.args.self.now in
    let l = c.args.left in
    let is = node_is (goal.at.returns-then-len-lt5 c).After-index-groups-place in
    let room = lt-ltb (length (group_of gs c.args.place)) 5 (omega (arith, ap length is.1, c.len.ensures.value, c.if-len-lt5.true)) in
    let all = c.insert.ensures ∙ sym (cond-true _ _ _ room) in
    let list = ap concat all ∙ list_split gs c.args.place l.to l.bound c.args.right is.0 in
    record { groups = all; list = list; ascends = split_keeps gs c.args.place l.to l.bound c.args.right is.0 list }

pub insert-requires-2 : goal.insert-requires-2
unfolding grouped
insert-requires-2 c =
    let is = node_is (goal.at.insert-requires-2 c).After-index-groups-place in
    let long = ap length is.1 in
    (omega (arith, long, is.0.1), omega (arith, long, c.args.self.now.small c.args.place.group is.0.0))

pub rebuild-requires : goal.rebuild-requires
rebuild-requires c =
    let gs = grouped c.args.self.now in
    let p = c.args.place in
    let l = c.args.left in
    let is = node_is (goal.at.rebuild-requires c).After-index-groups-place in
    let new = ap length (split_list gs p l.to l.bound c.args.right is.1 c.insert-2.ensures) in
    let n = length_split gs p.group p.slot l.to l.bound c.args.right is.0.0 is.0.1 in
    record { few = omega (arith, new, n, (splits_parts gs p c.requires).1); some = omega (arith, new, n) }

pub returns : goal.returns
returns c =
    let gs = grouped c.args.self.now in
    let l = c.args.left in
    let is = node_is (goal.at.returns c).After-index-groups-place in
    let none = le-ltb (length (group_of gs c.args.place)) 5 (omega (arith, ap length is.1, c.len.ensures.value, c.if-len-lt5.false)) in
    let all = c.rebuild.ensures ∙ ap singles (split_list gs c.args.place l.to l.bound c.args.right is.1 c.insert-2.ensures) ∙ sym (cond-false _ _ _ none) in
    let list = ap concat all ∙ list_split gs c.args.place l.to l.bound c.args.right is.0 in
    record { groups = all; list = list; ascends = split_keeps gs c.args.place l.to l.bound c.args.right is.0 list }
