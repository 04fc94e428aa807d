use Rattle.plans.proofs.ExampleLaws.{example_holds}
use Rattle.plans.proofs.laws.example_stands.Goals as goal

pub returns : goal.returns
returns c = example_holds
