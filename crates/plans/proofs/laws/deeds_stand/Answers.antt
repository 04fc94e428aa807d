use Rattle.plans.proofs.CallLaws.{calls_change_hold, nothing_changes_hold}
use Rattle.plans.proofs.laws.deeds_stand.Goals as goal

pub returns : goal.returns
returns c = record { change = calls_change_hold; nothing = nothing_changes_hold }
