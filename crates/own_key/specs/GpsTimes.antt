-- GPS times as a kind of key.
use Rattle.std.specs.Prelude.{ℕ, Option, Result, nat_lt}
use Rattle.std.specs.Option.{ok_or}
use Rattle.refusal.specs.declared.Refusal.{Refusal}
use Rattle.refusal.specs.declared.Refusal.TheVariants.{NotAKey}
use Rattle.keys.specs.Kind.{Kind}
use Rattle.keys.specs.Making.{made}
use Rattle.own_key.specs.Weeks.{instant, valid_gps}
use Rattle.own_key.specs.declared.gps.GpsTime.{GpsTime}

-- The time of a week and a second, if they are one.
abbrev pub gps : ℕ → ℕ → Option GpsTime
gps week second = made (valid_gps week second) (λ p. record { week = week; second = second; ok = p })

abbrev pub gps_of : ℕ → ℕ → Result GpsTime Refusal
gps_of week second = ok_or (gps week second) NotAKey

-- The first word is the week, the second is the second. The earlier time is before.
abbrev pub gps_kind : Kind GpsTime
gps_kind = record {
  code = 3;
  form = λ t. (t.week, t.second);
  read = λ w. gps w.0 w.1;
  before = λ a b. nat_lt (instant a.week a.second) (instant b.week b.second);
}
