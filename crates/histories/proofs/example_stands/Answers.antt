use Rattle.histories.proofs.ListLaws.{example_holds}
use Rattle.histories.proofs.example_stands.Goals as goal

pub returns : goal.returns
returns c = example_holds
