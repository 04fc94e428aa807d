use Rattle.appends.proofs.ParityLaws.{alternates_hold}
use Rattle.appends.proofs.parity_stands.Goals as goal

pub returns : goal.returns
returns c = alternates_hold
