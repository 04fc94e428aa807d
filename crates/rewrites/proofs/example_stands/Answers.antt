use Rattle.rewrites.proofs.ExampleLaws.{example_holds}
use Rattle.rewrites.proofs.example_stands.Goals as goal

pub returns : goal.returns
returns c = example_holds
