use Rattle.plans.proofs.ReachLaws.{reaches_few_hold, reaches_in_area_hold}
use Rattle.plans.proofs.laws.reach_stands.Goals as goal

pub returns : goal.returns
returns c = record { few = reaches_few_hold; area = reaches_in_area_hold }
