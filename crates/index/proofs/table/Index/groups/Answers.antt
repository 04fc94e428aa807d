use Rattle.index.specs.Meaning.{grouped}
use Rattle.index.proofs.ChangeLaws.{groups_part}
use Rattle.index.proofs.table.Index.groups.Goals as goal

pub returns : goal.returns
unfolding grouped
returns c = let x = c.args.self.now in groups_part x.nodes x.used c.lowest-low.result c.lowest-low.ensures
