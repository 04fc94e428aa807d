-- Stamps as a kind of key.
use Rattle.std.specs.Prelude.{ℕ, ◌+◌, ◌*◌, ◌/◌, ◌%◌, Option, Result, nat_lt}
use Rattle.std.specs.Option.{ok_or}
use Rattle.refusal.specs.declared.Refusal.{Refusal}
use Rattle.refusal.specs.declared.Refusal.TheVariants.{NotAKey}
use Rattle.keys.specs.Kind.{Kind}
use Rattle.keys.specs.Making.{made, then_by}
use Rattle.keys.specs.Dates.{valid_stamp}
use Rattle.keys.specs.declared.stamp.Stamp.{Stamp}

-- The stamp of a year, a day and a millisecond, if they are one.
abbrev pub stamp : ℕ → ℕ → ℕ → Option Stamp
stamp year day millisecond =
    made (valid_stamp year day millisecond) (λ p. record { year = year; day = day; millisecond = millisecond; ok = p })

abbrev pub stamp_of : ℕ → ℕ → ℕ → Result Stamp Refusal
stamp_of year day millisecond = ok_or (stamp year day millisecond) NotAKey

-- The first word is the millisecond, the second is year × 512 + day. The order is by year, day and millisecond.
abbrev pub stamp_kind : Kind Stamp
stamp_kind = record {
  code = 1;
  form = λ s. (s.millisecond, s.year * 512 + s.day);
  read = λ w. stamp (w.1 / 512) (w.1 % 512) w.0;
  before = λ a b. then_by a.year b.year (then_by a.day b.day (nat_lt a.millisecond b.millisecond));
}
