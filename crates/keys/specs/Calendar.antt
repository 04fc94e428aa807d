-- What the calendar says of stamps.
use Rattle.std.specs.Prelude.{◌≡◌, ℕ, ◌*◌, ◌<◌, ◌≤◌, true, false, is_some, Decides, nat_lt}
use Rattle.keys.specs.Gregorian.{leap, Date, ordinal, elapsed, instant}
use Rattle.keys.specs.Stamps.{stamp, stamp_kind}
use Rattle.keys.specs.declared.stamp.Stamp.{Stamp}

-- In the years of the stamps, a day has stamps exactly when it is the ordinal day of a calendar date.
abbrev pub OrdinalDates : Type 0
OrdinalDates = (year day : ℕ) → 2000 ≤ year → year ≤ 2399 → Decides (is_some (stamp year day 0)) ((date : Date year) × (ordinal year date ≡ day))

abbrev pub instant_of : Stamp → ℕ
instant_of s = instant s.year s.day s.millisecond

-- The order of stamps is the order of their instants.
abbrev pub OrderOfInstants : Type 0
OrderOfInstants = (a b : Stamp) → stamp_kind.before a b ≡ nat_lt (instant_of a) (instant_of b)

-- Each millisecond of the 400 years is the instant of one stamp, and no other number is.
pub record OneStampEach : Type 0 where
  pub apart : (a b : Stamp) → instant_of a ≡ instant_of b → a ≡ b
  pub within : (s : Stamp) → instant_of s < elapsed 400 * 86400000
  pub all : (n : ℕ) → n < elapsed 400 * 86400000 → (s : Stamp) × (instant_of s ≡ n)

-- Known days and years.
pub record Known : Type 0 where
  pub days : elapsed 400 ≡ 146097
  pub leap_2000 : leap 2000 ≡ true
  pub leap_2024 : leap 2024 ≡ true
  pub common_2023 : leap 2023 ≡ false
  pub common_2100 : leap 2100 ≡ false
