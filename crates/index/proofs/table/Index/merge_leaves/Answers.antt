use Rattle.std.proofs.Common.{◌≡◌, length, ap, ◌∙◌, arith}
use Rattle.index.specs.Nodes.{items, joined}
use Rattle.index.specs.Places.{position, group_of}
use Rattle.index.specs.Search.{concat}
use Rattle.index.specs.Shape.{singles}
use Rattle.index.specs.Meaning.{grouped}
use Rattle.index.proofs.ChangeLaws.{group_count, node_group}
use Rattle.index.proofs.LocateLaws.{length_grouped}
use Rattle.index.proofs.ListLaws.{Merging, merging}
use Rattle.index.proofs.BuildLaws.{concat_singles}
use Rattle.index.proofs.KeepingLaws.{merge_keeps}
use Rattle.index.proofs.table.Index.merge_leaves.Goals.{After-replace, After-index-groups-place}
use Rattle.index.proofs.table.Index.merge_leaves.Goals as goal

second : (c : After-replace) → Merging (grouped c.args.self.now) (grouped c.replace.new.self) c.args.place c.args.leaf
second c = merging (grouped c.args.self.now) (grouped c.replace.new.self) c.args.place c.args.next c.args.leaf c.requires c.replace.ensures.groups

same : (c : After-index-groups-place) → Merging (grouped c.args.self.now) (grouped c.replace.new.self) c.args.place c.args.leaf → items c.index-groups-place.result ≡ group_of (grouped c.replace.new.self) c.args.place
same c m = node_group c.groups.result.now (grouped c.replace.new.self) c.args.place.group c.index-groups-place.result c.index-groups-place.result c.groups.ensures m.there.0 c.index-groups-place.is

pub offset_bounds-groups-place : goal.offset_bounds-groups-place
offset_bounds-groups-place c =
    let m = second (goal.at.offset_bounds-groups-place c).After-replace in
    let y = c.replace.new.self in
    omega (arith, m.there.0, length_grouped y, y.size.1)

pub bounds-groups-place : goal.bounds-groups-place
bounds-groups-place c =
    let m = second (goal.at.bounds-groups-place c).After-replace in
    omega (arith, m.there.0, group_count c.groups.result.now (grouped c.replace.new.self) c.groups.ensures)

pub remove-requires : goal.remove-requires
remove-requires c =
    let at = goal.at.remove-requires c in
    let m = second at.After-replace in
    omega (arith, m.there.1, ap length (same at.After-index-groups-place m))

pub rebuild-requires : goal.rebuild-requires
unfolding grouped
rebuild-requires c =
    let at = goal.at.rebuild-requires c in
    let x = c.args.self.now in
    let m = second at.After-replace in
    let new = ap length (m.list (same at.After-index-groups-place m) c.remove.ensures) in
    record { few = omega (arith, new, m.count, x.counted.0, x.counted.1); some = omega (arith, new, m.some) }

pub returns : goal.returns
returns c =
    let at = goal.at.returns c in
    let gs = grouped c.args.self.now in
    let p = c.args.place in
    let m = second at.After-replace in
    let all = c.rebuild.ensures ∙ ap singles (m.list (same at.After-index-groups-place m) c.remove.ensures) in
    let list = ap concat all ∙ concat_singles (joined (concat gs) (position gs p) c.args.leaf) in
    record { groups = all; list = list; ascends = merge_keeps gs p c.args.next c.args.leaf c.requires list }
