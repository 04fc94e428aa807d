use Rattle.index.proofs.ShowLaws.{node_telling}
use Rattle.index.proofs.table.Index.show_node.Goals as goal

pub returns : goal.returns
returns c = node_telling c.args.self.now c.args.i c.index-self-i.result c.requires c.lowest.ensures c.show.ensures
