use Rattle.keys.proofs.CalendarOfStamps.{ordinal_dates, order_of_instants, one_stamp_each, known}
use Rattle.keys.proofs.calendar.calendar_stands.Goals as goal

pub returns : goal.returns
returns c = record { dates = ordinal_dates; order = order_of_instants; each = one_stamp_each; known = known }
