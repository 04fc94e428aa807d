use Rattle.appends.proofs.CallLaws.{calls_are_hold, calls_fit_hold}
use Rattle.appends.proofs.calls_stand.Goals as goal

pub returns : goal.returns
returns c = record { are = calls_are_hold; fit = calls_fit_hold }
