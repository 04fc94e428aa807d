use Rattle.std.proofs.Common.{◌<◌, [], ◌≡◌, length, get_or, ap, ◌∙◌, arith, rules}
use Rattle.index.specs.Meaning.{grouped}
use Rattle.index.proofs.ChangeLaws.{group_read}
use Rattle.index.proofs.ListLaws.{last_slot, last_group}
use Rattle.index.proofs.PlaceLaws.{within_parts}
use Rattle.index.proofs.table.Index.before.Goals.{After-len}
use Rattle.index.proofs.table.Index.before.Goals as goal

-- The group before the place's is as long as its node, and not empty.
group_is : (c : After-len) → (c.len.result ≡ length (get_or (grouped c.args.self.now) c.in_ok-group.group [])) × (0 < c.len.result)
unfolding grouped
group_is c =
    let x = c.args.self.now in
    let g = c.in_ok-group.group in
    let w = within_parts (grouped x) c.args.place (search rules) in
    let h : g < length (grouped x) = omega arith in
    let long = c.len.ensures.value ∙ ap length (group_read c.groups.result.now (grouped x) g c.index-groups-group.result c.groups.ensures h) in
    (long, omega (arith, long, x.full g h))

pub returns-then-place-gt0 : goal.returns-then-place-gt0
returns-then-place-gt0 c = last_slot (grouped c.args.self.now) c.args.place (search rules) c.if-place-gt0.true

pub overflow_sub-result-2 : goal.overflow_sub-result-2
overflow_sub-result-2 c =
    let is = group_is (goal.at.overflow_sub-result-2 c).After-len in
    omega (arith, is.1)

pub returns : goal.returns
returns c =
    let is = group_is (goal.at.returns c).After-len in
    last_group (grouped c.args.self.now) c.args.place (search rules) c.in_ok-group.group (search rules) (omega (arith, c.if-place-gt0.false)) is.0 is.1
