use Rattle.index.specs.Meaning.{grouped}
use Rattle.index.proofs.table.Index.len.Goals as goal

pub returns : goal.returns
unfolding grouped
returns c = c.args.self.now.counted.0
