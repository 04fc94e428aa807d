-- The days and milliseconds of the calendar, by number.
use Rattle.std.proofs.Common.{◌≡◌, ℕ, zero, suc, ◌+◌, ◌-◌, ◌*◌, ◌<◌, ◌≤◌, Bool, true, false, cond, ◌&&◌, ltb, leb, List, [], ◌∷◌, length, get_or, take, sum, refl, ap, ◌∙◌, ⊎_elim, arith}
use Rattle.std.proofs.lemmas.List.Sums.{sum_by-cons, sum_by_more, sum_by-take-le}
use Rattle.std.proofs.lemmas.Bool.{cases_lt}
use Rattle.std.proofs.lemmas.Bool.Decides.{nat_tests}
use Rattle.keys.specs.Dates.{days_in, valid_stamp}
use Rattle.keys.specs.Gregorian.{leap, months, elapsed, day_number}
use Rattle.keys.specs.Making.{then_by}

-- What a valid stamp's numbers are.
pub record Valid (year day millisecond : ℕ) : Type 0 where
  pub year_from : 2000 ≤ year
  pub year_to : year ≤ 2399
  pub day_from : 1 ≤ day
  pub day_to : day ≤ days_in year
  pub within_day : millisecond < 86400000

in_range : (y d m n : ℕ) → (leb 2000 y && leb y 2399 && leb 1 d && leb d n && ltb m 86400000) ≡ true → (2000 ≤ y) × (y ≤ 2399) × (1 ≤ d) × (d ≤ n) × (m < 86400000)
in_range y d m n e = grind (arith, nat_tests)

ranged : (y d m n : ℕ) → 2000 ≤ y → y ≤ 2399 → 1 ≤ d → d ≤ n → m < 86400000 → (leb 2000 y && leb y 2399 && leb 1 d && leb d n && ltb m 86400000) ≡ true
ranged y d m n a b c e f = grind (arith, nat_tests)

pub valid_from : (y d m : ℕ) → valid_stamp y d m ≡ true → Valid y d m
valid_from y d m e =
    let r = in_range y d m (days_in y) e in
    record { year_from = r.0; year_to = r.1; day_from = r.2; day_to = r.3; within_day = r.4 }

pub from_valid : (y d m : ℕ) → Valid y d m → valid_stamp y d m ≡ true
from_valid y d m v = ranged y d m (days_in y) v.year_from v.year_to v.day_from v.day_to v.within_day

-- The months of a year have its days.
by_leap : (b : Bool) → sum (31 ∷ cond b 29 28 ∷ 31 ∷ 30 ∷ 31 ∷ 30 ∷ 31 ∷ 31 ∷ 30 ∷ 31 ∷ 30 ∷ 31 ∷ []) ≡ cond b 366 365
by_leap true = refl
by_leap false = refl

pub days_of_months : (year : ℕ) → sum (months year) ≡ days_in year
days_of_months year = by_leap (leap year)

-- The month in which a day lies.
pub find_month : (xs : List ℕ) (d : ℕ) → 1 ≤ d → d ≤ sum xs → (i : ℕ) × (i < length xs) × (sum (take i xs) < d) × (d ≤ sum (take i xs) + get_or xs i 0)
find_month [] d p q = absurd (omega arith)
find_month (x ∷ xs) d p q =
    ⊎_elim
    (λ h.
    let e = sum_by-cons (λ n. n) x xs in
    let f = find_month xs (d - x) (omega arith) (omega arith) in
    let g = sum_by-cons (λ n. n) x (take f.0 xs) in
    (suc f.0, omega arith, omega arith, omega arith))
    (λ h. (0, omega arith, omega arith, omega arith))
    (cases_lt x d)

-- A day of a month is a day of the year.
pub in_months : (xs : List ℕ) (i d : ℕ) → i < length xs → d ≤ get_or xs i 0 → sum (take i xs) + d ≤ sum xs
in_months xs i d h k = omega (arith, sum_by_more (λ n. n) xs i 0 h, sum_by-take-le (λ n. n) xs (i + 1))

pub elapsed_mono : (i j : ℕ) → i ≤ j → elapsed i ≤ elapsed j
elapsed_mono i zero h = let e : i ≡ 0 = omega arith in omega (arith, ap elapsed e)
elapsed_mono i (suc j) h =
    ⊎_elim
    (λ k. let m = elapsed_mono i j (omega arith) in omega arith)
    (λ k. let e : i ≡ suc j = omega arith in omega (arith, ap elapsed e))
    (cases_lt i (suc j))

-- The year in which a day lies.
pub find_year : (years n : ℕ) → n < elapsed years → (k : ℕ) × (k < years) × (elapsed k ≤ n) × (n < elapsed (suc k))
find_year zero n h = absurd (omega arith)
find_year (suc years) n h =
    ⊎_elim
    (λ k. let f = find_year years n k in (f.0, omega arith, f.2, f.3))
    (λ k. (years, omega arith, k, h))
    (cases_lt n (elapsed years))

-- A year's days end where the next year begins.
pub year_ends : (y i : ℕ) → 2000 ≤ y → y - 2000 < i → elapsed (y - 2000) + days_in y ≤ elapsed i
year_ends y i h k =
    let m = elapsed_mono (suc (y - 2000)) i (omega arith) in
    let e : 2000 + (y - 2000) ≡ y = omega arith in
    let d = ap (λ n. sum (months n)) e ∙ days_of_months y in
    omega arith

-- The order by day number is the order by year and then day.
same_order : (y z d e m n : ℕ) (r : Bool) → (y < z → m < n) → (z < y → n < m) → (y ≡ z → d < e → m < n) → (y ≡ z → e < d → n < m) → (y ≡ z → d ≡ e → m ≡ n) → then_by y z (then_by d e r) ≡ then_by m n r
same_order y z d e m n r a b f g h = grind (arith, nat_tests)

days_apart : (y z d e : ℕ) → 2000 ≤ y → y < z → 1 ≤ d → d ≤ days_in y → day_number y d < day_number z e
days_apart y z d e a b c f = let k = year_ends y (z - 2000) a (omega arith) in omega arith

pub by_day_number : (y d m z e n : ℕ) (r : Bool) → Valid y d m → Valid z e n → then_by y z (then_by d e r) ≡ then_by (day_number y d) (day_number z e) r
by_day_number y d m z e n r v w =
    same_order y z d e (day_number y d) (day_number z e) r
    (λ h. days_apart y z d e v.year_from h v.day_from v.day_to)
    (λ h. days_apart z y e d w.year_from h w.day_from w.day_to)
    (λ h k. let q = v.day_from in let i = ap (λ x. elapsed (x - 2000)) h in omega arith)
    (λ h k. let q = w.day_from in let i = ap (λ x. elapsed (x - 2000)) h in omega arith)
    (λ h k. let i = ap (λ x. elapsed (x - 2000)) h in omega arith)

-- The order by day number and then millisecond is the order by milliseconds in all.
pub by_millisecond : (m n s t : ℕ) → s < 86400000 → t < 86400000 → then_by m n (ltb s t) ≡ ltb (m * 86400000 + s) (n * 86400000 + t)
by_millisecond m n s t h k = grind (arith, nat_tests)
