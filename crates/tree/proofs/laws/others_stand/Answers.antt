use Rattle.tree.proofs.ElsewhereLaws.{leaves_others_hold, leaves_outside_hold}
use Rattle.tree.proofs.laws.others_stand.Goals as goal

pub returns : goal.returns
returns c = record { others = leaves_others_hold; outside = leaves_outside_hold }
