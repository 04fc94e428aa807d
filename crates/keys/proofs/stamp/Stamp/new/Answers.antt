use Rattle.keys.specs.Dates.{valid_stamp}
use Rattle.keys.specs.Lexical.{ok_made}
use Rattle.keys.proofs.stamp.Stamp.new.Goals as goal

pub returns : goal.returns
returns c = ok_made (valid_stamp c.args.year c.args.day c.args.millisecond) _ _ _
