use Rattle.writes.proofs.Cuts.{observed_holds}
use Rattle.writes.proofs.observed_stands.Goals as goal

pub returns : goal.returns
returns g c = observed_holds _
