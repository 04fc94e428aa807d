use Rattle.index.proofs.BuildLaws.{made_one, made_root, made_row}
use Rattle.index.proofs.table.build.put_node.Goals as goal

pub returns-then-n-le9 : goal.returns-then-n-le9
returns-then-n-le9 c = made_one c.args.entries.now c.args.i c.lowest-low.ensures c.if-i-low.false c.if-n-le9.true c.put_children.ensures

pub returns-then-i-eq0 : goal.returns-then-i-eq0
returns-then-i-eq0 c = made_root c.args.entries.now c.args.i c.lowest-low.ensures c.if-i-low.false c.if-n-le9.false c.if-i-eq0.true c.put_root.ensures

pub returns-else-i-eq0 : goal.returns-else-i-eq0
returns-else-i-eq0 c =
    let low = c.lowest-low.ensures in
    made_row c.args.entries.now c.args.i low c.if-i-low.false c.if-n-le9.false c.if-i-eq0.false c.row.ensures c.put_children-else-i-eq0.ensures
