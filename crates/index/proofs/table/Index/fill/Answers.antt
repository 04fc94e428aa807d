use Rattle.std.proofs.Common.{◌≤◌, length, arith}
use Rattle.index.specs.Meaning.{grouped}
use Rattle.index.proofs.BuildLaws.{build_groups, build_counted, build_sound, build_full, build_small}
use Rattle.index.proofs.table.Index.fill.Goals as goal

pub invariant_of-self : goal.invariant_of-self
invariant_of-self c =
    let es = c.args.entries.now in
    let nodes = c.put_nodes.new.nodes in
    let few : length es ≤ 81 = omega (arith, c.requires.1) in
    let t = c.put_nodes.ensures in
    record {
      size = (c.requires.0, few, t.long);
      counted = (build_counted es nodes few t.long t.each, c.requires.1);
      full = build_full es nodes few t.long t.each;
      small = build_small es nodes few t.long t.each;
      sound = build_sound es nodes few t.long t.each;
    }

pub returns : goal.returns
unfolding grouped
returns c = build_groups c.args.entries.now c.put_nodes.new.nodes (omega (arith, c.requires.1)) c.put_nodes.ensures.long c.put_nodes.ensures.each
