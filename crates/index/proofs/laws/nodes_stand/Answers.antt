use Rattle.index.proofs.KeepingLaws.{replace_one_node, split_one_node}
use Rattle.index.proofs.laws.nodes_stand.Goals as goal

pub returns : goal.returns
returns c = record { replace = replace_one_node; split = split_one_node }
