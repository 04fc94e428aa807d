use Rattle.std.proofs.Common.{◌≡◌, ◌<◌, length, get_or, ap, ◌∙◌, arith, rules}
use Rattle.index.specs.Places.{group_of}
use Rattle.index.specs.Meaning.{grouped}
use Rattle.index.proofs.ChangeLaws.{group_count, node_group}
use Rattle.index.proofs.ListLaws.{next_slot, next_group, no_next}
use Rattle.index.proofs.table.Index.after.Goals.{After-len-len}
use Rattle.index.proofs.table.Index.after.Goals as goal

-- The place's group is there, as long as the node found.
group_is : (c : After-len-len) → (c.args.place.group < length (grouped c.args.self.now)) × (c.len-len.result ≡ length (group_of (grouped c.args.self.now) c.args.place))
group_is c =
    let gs = grouped c.args.self.now in
    let g = c.args.place.group in
    let nodes = c.groups-groups.result.now in
    let node = c.in_ok-get.field-0.now in
    let below : g < length nodes = search rules in
    let is : node ≡ get_or nodes g node = search rules in
    let h : g < length gs = omega (arith, group_count nodes gs c.groups-groups.ensures) in
    (h, c.len-len.ensures.value ∙ ap length (node_group nodes gs g node node c.groups-groups.ensures h is))

pub returns-then-place-len-2 : goal.returns-then-place-len-2
returns-then-place-len-2 c =
    let is = group_is (goal.at.returns-then-place-len-2 c).After-len-len in
    next_slot (grouped c.args.self.now) c.args.place is.0 is.1 c.if-place-len.false c.if-place-len-2.true

pub returns-then-place-groups : goal.returns-then-place-groups
unfolding grouped
returns-then-place-groups c =
    let x = c.args.self.now in
    let is = group_is (goal.at.returns-then-place-groups c).After-len-len in
    let many = group_count c.groups-groups.result.now (grouped x) c.groups-groups.ensures in
    next_group (grouped x) c.args.place is.0 is.1 c.if-place-len.false x.full c.if-place-len-2.false (omega arith)

pub returns : goal.returns
returns c =
    let gs = grouped c.args.self.now in
    let is = group_is (goal.at.returns c).After-len-len in
    let many = group_count c.groups-groups.result.now gs c.groups-groups.ensures in
    no_next gs c.args.place is.0 is.1 c.if-place-len.false c.if-place-len-2.false (omega arith)
