use Rattle.rewrites.proofs.ParityLaws.{never_empty_holds}
use Rattle.rewrites.proofs.removals_stand.Goals as goal

pub returns : goal.returns
returns c = never_empty_holds
