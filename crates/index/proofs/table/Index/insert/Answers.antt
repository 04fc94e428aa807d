use Rattle.std.proofs.Common.{length, ap, arith}
use Rattle.index.specs.Nodes.{parted}
use Rattle.index.specs.Search.{concat}
use Rattle.index.specs.Places.{group_of}
use Rattle.index.specs.Meaning.{grouped}
use Rattle.index.proofs.ChangeLaws.{Changed, last_parted, length_parted, group_at, changed}
use Rattle.index.proofs.ListLaws.{length_split}
use Rattle.index.proofs.PlaceLaws.{within_parts}
use Rattle.index.proofs.table.Index.insert.Goals.{After-insert_in}
use Rattle.index.proofs.table.Index.insert.Goals as goal

change : (c : After-insert_in) → Changed c.args.self.now c.args.place.group (parted (group_of (grouped c.args.self.now) c.args.place) c.args.place.slot c.args.left.to c.args.left.bound c.args.right) c.insert_in.new.nodes
change c =
    let x = c.args.self.now in
    let p = c.args.place in
    let l = c.args.left in
    let w = within_parts (grouped x) p c.requires.0 in
    changed x p.group c.node_of-at.result (λ es. parted es p.slot l.to l.bound c.args.right) c.insert_in.new.nodes w.0 c.node_of-at.ensures.node c.insert_in.ensures (last_parted (group_of (grouped x) p) p.slot l.to l.bound c.args.right w.1)

pub insert_in-requires : goal.insert_in-requires
insert_in-requires c =
    let x = c.args.self.now in
    let p = c.args.place in
    let w = within_parts (grouped x) p c.requires.0 in
    let at = c.node_of-at.ensures in
    let n = ap length (group_at x p.group c.node_of-at.result w.0 at.node) in
    (omega (arith, at.within, x.size.2), (omega (arith, w.1, n), omega (arith, c.requires.1.0, n)))

pub invariant_of-self : goal.invariant_of-self
unfolding grouped
invariant_of-self c =
    let x = c.args.self.now in
    let p = c.args.place in
    let l = c.args.left in
    let w = within_parts (grouped x) p c.requires.0 in
    let ch = change (goal.at.invariant_of-self c).After-insert_in in
    let long = length_parted (group_of (grouped x) p) p.slot l.to l.bound c.args.right w.1 in
    record {
      size = (x.size.0, x.size.1, ch.long);
      counted = (omega (arith, x.counted.0, ap (λ gs. length (concat gs)) ch.all, length_split (grouped x) p.group p.slot l.to l.bound c.args.right w.0 w.1), omega (arith, x.counted.0, c.requires.1.1));
      full = ch.full (omega (arith, long));
      small = ch.small (omega (arith, long, c.requires.1.0));
      sound = ch.sound;
    }

pub returns : goal.returns
unfolding grouped
returns c = (change (goal.at.returns c).After-insert_in).all
