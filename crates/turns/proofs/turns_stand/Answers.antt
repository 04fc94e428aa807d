use Rattle.turns.proofs.TurnLaws.{turns_hold, granted_steps_hold, cut_steps_hold}
use Rattle.turns.proofs.turns_stand.Goals as goal

pub returns : goal.returns
returns c = record { law = turns_hold; granted = granted_steps_hold; cut = cut_steps_hold }
