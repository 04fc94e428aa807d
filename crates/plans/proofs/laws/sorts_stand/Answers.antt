use Rattle.plans.proofs.SortLaws.{appends_with_room_hold, bounds_move_hold, last_is_greatest_holds}
use Rattle.plans.proofs.laws.sorts_stand.Goals as goal

pub returns : goal.returns
returns c = record { appends = appends_with_room_hold; bounds = bounds_move_hold; greatest = last_is_greatest_holds }
