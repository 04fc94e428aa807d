use Rattle.plans.proofs.PlanLaws.{plans_hold, removes_go_hold, commits_change_hold}
use Rattle.plans.proofs.RisingLaws.{bounds_rise_hold}
use Rattle.plans.proofs.laws.plans_stand.Goals as goal

pub returns : goal.returns
returns c = record { hold = plans_hold; removes = removes_go_hold; commits = commits_change_hold; rise = bounds_rise_hold }
