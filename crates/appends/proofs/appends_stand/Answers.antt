use Rattle.appends.proofs.AppendLaws.{appends_hold, append_cost_holds}
use Rattle.appends.proofs.BoundsKept.{append_bounds_hold}
use Rattle.appends.proofs.appends_stand.Goals as goal

pub returns : goal.returns
returns c = record { turns = appends_hold; bounds = append_bounds_hold; cost = append_cost_holds }
