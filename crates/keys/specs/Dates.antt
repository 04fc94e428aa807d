-- Which numbers are a stamp: the one definition of a stamp's validity.
use Rattle.std.specs.Prelude.{ℕ, Bool, cond, ◌&&◌, nat_le, nat_lt}
use Rattle.keys.specs.Gregorian.{leap}

abbrev pub days_in : ℕ → ℕ
days_in year = cond (leap year) 366 365

-- A day of one of the years 2000 to 2399.
abbrev pub valid_day : ℕ → ℕ → Bool
valid_day year day = nat_le 2000 year && nat_le year 2399 && nat_le 1 day && nat_le day (days_in year)

-- A millisecond of such a day.
abbrev pub valid_stamp : ℕ → ℕ → ℕ → Bool
valid_stamp year day millisecond = valid_day year day && nat_lt millisecond 86400000
