use Rattle.std.proofs.Common.{◌∙◌, arith, length-set}
use Rattle.index.specs.Shape.{singles, table}
use Rattle.index.proofs.BuildLaws.{nodes_turn}
use Rattle.index.proofs.table.build.put_nodes.Goals as goal

pub loop-i-preserved : goal.loop-i-preserved
loop-i-preserved c =
    let l = c.loop-i in
    let v = l.invariant in
    record {
      long = length-set l.nodes l.i c.put_node.new.node ∙ v.long;
      each = nodes_turn (table (singles c.args.entries.now)) l.nodes l.i c.put_node.new.node (omega (arith, c.loop-i-test.true, l.auto.i-end, v.long, c.requires.0)) c.put_node.ensures v.each;
    }
