use Rattle.own_key.specs.Weeks.{valid_gps}
use Rattle.keys.specs.Lexical.{ok_made}
use Rattle.own_key.proofs.gps.GpsTime.new.Goals as goal

pub returns : goal.returns
returns c = ok_made (valid_gps c.args.week c.args.second) _ _ _
