use Rattle.plans.proofs.DecisionLaws.{decision_lawful, split_halves_hold, split_of_seventeen_holds, never_split_holds, rule_splits_holds}
use Rattle.plans.proofs.laws.decisions_stand.Goals as goal

pub returns : goal.returns
returns c = record { lawful = decision_lawful; halves = split_halves_hold; seventeen = split_of_seventeen_holds; never = never_split_holds; splits = rule_splits_holds }
