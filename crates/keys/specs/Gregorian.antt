-- The Gregorian calendar from the year 2000 on: months, ordinal dates, and the milliseconds that have passed.
use Rattle.std.specs.Prelude.{ℕ, zero, suc, ◌+◌, ◌-◌, ◌*◌, ◌%◌, ◌≤◌, Bool, cond, not, ◌&&◌, ◌||◌, List, [], ◌∷◌, take, sum, ◌==◌, slice_index}

-- 4 divides the year, except when 100 divides it and 400 does not.
abbrev pub leap : ℕ → Bool
leap year = year % 4 == 0 && (not (year % 100 == 0) || year % 400 == 0)

-- The lengths of the months, January first.
abbrev pub months : ℕ → List ℕ
months year = 31 ∷ cond (leap year) 29 28 ∷ 31 ∷ 30 ∷ 31 ∷ 30 ∷ 31 ∷ 31 ∷ 30 ∷ 31 ∷ 30 ∷ 31 ∷ []

-- A calendar date of a year: a month 1 to 12, and a day of that month.
pub record Date (year : ℕ) : Type 0 where
  pub month : ℕ
  pub day : ℕ
  pub month_from : 1 ≤ month
  pub month_to : month ≤ 12
  pub day_from : 1 ≤ day
  pub day_to : day ≤ slice_index (months year) (month - 1)

-- The day of the year: the days of the months before, and the day of the month.
abbrev pub ordinal : (year : ℕ) → Date year → ℕ
ordinal year date = sum (take (date.month - 1) (months year)) + date.day

-- The days from the start of 2000 to the start of the year n years later.
abbrev pub elapsed : ℕ → ℕ
elapsed zero = 0
elapsed (suc n) = elapsed n + sum (months (2000 + n))

-- The days from the start of 2000 to the start of a day of a year.
abbrev pub day_number : ℕ → ℕ → ℕ
day_number year day = elapsed (year - 2000) + (day - 1)

-- The milliseconds from the start of 2000 to a millisecond of a day of a year.
abbrev pub instant : ℕ → ℕ → ℕ → ℕ
instant year day millisecond = day_number year day * 86400000 + millisecond
