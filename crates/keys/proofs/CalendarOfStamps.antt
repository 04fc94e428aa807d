-- What the calendar says of stamps.
use Rattle.std.proofs.Common.{◌≡◌, ℕ, suc, ◌+◌, ◌-◌, ◌*◌, ◌/◌, ◌%◌, ◌<◌, ◌≤◌, Bool, true, false, T, ltb, length, get_or, take, is_some, sum, sym, refl, ap, ◌∙◌, arith}
use Rattle.std.proofs.lemmas.Bool.{true≢false}
use Rattle.keys.specs.Calendar.{OrdinalDates, instant_of, OrderOfInstants, OneStampEach, Known}
use Rattle.keys.specs.Dates.{valid_stamp}
use Rattle.keys.specs.Gregorian.{Date, ordinal, months, elapsed, day_number}
use Rattle.keys.specs.Making.{made}
use Rattle.keys.specs.Stamps.{stamp_kind}
use Rattle.keys.specs.declared.stamp.Stamp.{Stamp}
use Rattle.keys.proofs.CalendarLaws.{Valid, valid_from, from_valid, days_of_months, find_month, in_months, find_year, year_ends, by_day_number, by_millisecond}
use Rattle.keys.specs.Lexical.{lt_irreflexive}
use Rattle.keys.specs.StampLaws.{ordered}

some_made : {A : Type 0} (b : Bool) (f : T b → A) → is_some (made b f) ≡ b
some_made true f = refl
some_made false f = refl

holds : (b : Bool) → T b → b ≡ true
holds true t = refl
holds false t = absurd t

held : (b : Bool) → b ≡ true → T b
held true e = tt
held false e = absurd (true≢false (sym e))

pub valid_of : (s : Stamp) → Valid s.year s.day s.millisecond
valid_of s = valid_from s.year s.day s.millisecond (holds (valid_stamp s.year s.day s.millisecond) s.ok)

date_of : (year day : ℕ) → Valid year day 0 → (date : Date year) × (ordinal year date ≡ day)
date_of year day v =
    let f = find_month (months year) day v.day_from (let d = v.day_to in omega (arith, days_of_months year)) in
    let i = f.0 in
    let low : sum (take i (months year)) < day = f.2 in
    let high : day ≤ sum (take i (months year)) + get_or (months year) i 0 = f.3 in
    let e : (i + 1) - 1 ≡ i = omega arith in (
      record {
        month = i + 1;
        day = day - sum (take i (months year));
        month_from = omega arith;
        month_to = let h = f.1 in omega arith;
        day_from = omega arith;
        day_to = rw e (omega arith);
      },
      rw e (omega arith),
    )

valid_date : (year day : ℕ) → 2000 ≤ year → year ≤ 2399 → (date : Date year) → ordinal year date ≡ day → Valid year day 0
valid_date year day a b date e =
    let from = date.day_from in
    let h : date.month - 1 < length (months year) = let l = date.month_from in let m = date.month_to in omega arith in
    let k = in_months (months year) (date.month - 1) date.day h date.day_to in
    record { year_from = a; year_to = b; day_from = omega arith; day_to = omega (arith, days_of_months year); within_day = omega arith }

pub ordinal_dates : OrdinalDates
ordinal_dates year day a b =
    let s = some_made (valid_stamp year day 0) (λ p. record { year = year; day = day; millisecond = 0; ok = p }) in
    (λ e. date_of year day (valid_from year day 0 (sym s ∙ e)), λ d. s ∙ from_valid year day 0 (valid_date year day a b d.0 d.1))

pub order_of_instants : OrderOfInstants
order_of_instants a b =
    let v = valid_of a in
    let w = valid_of b in
    by_day_number a.year a.day a.millisecond b.year b.day b.millisecond _ v w
    ∙ by_millisecond (day_number a.year a.day) (day_number b.year b.day) a.millisecond b.millisecond v.within_day w.within_day

-- Stamps of one instant are not before one another.
not_before : (a b : Stamp) → instant_of a ≡ instant_of b → stamp_kind.before a b ≡ false
not_before a b e = order_of_instants a b ∙ ap (λ n. ltb n (instant_of b)) e ∙ lt_irreflexive (instant_of b)

within_years : (s : Stamp) → day_number s.year s.day < elapsed 400
within_years s =
    let v = valid_of s in
    let from = v.year_from in
    let to = v.year_to in
    let one = v.day_from in
    let last = v.day_to in
    let k = year_ends s.year 400 from (omega arith) in
    omega arith

stamp_at : (k day ms : ℕ) → Valid (2000 + k) (day + 1) ms → (s : Stamp) × (instant_of s ≡ (elapsed k + day) * 86400000 + ms)
stamp_at k day ms v =
    let e : (2000 + k) - 2000 ≡ k = omega arith in
    let d : (day + 1) - 1 ≡ day = omega arith in
    (record { year = 2000 + k; day = day + 1; millisecond = ms; ok = held _ (from_valid (2000 + k) (day + 1) ms v) }, rw (e, d))

rejoined : (start n : ℕ) → start ≤ n / 86400000 → (start + (n / 86400000 - start)) * 86400000 + n % 86400000 ≡ n
rejoined start n h = omega arith

-- The stamp of a number of milliseconds that lies in a known year.
in_year : (k n : ℕ) → k < 400 → elapsed k ≤ n / 86400000 → n / 86400000 < elapsed (suc k) → (s : Stamp) × (instant_of s ≡ n)
in_year k n few low high =
    let v : Valid (2000 + k) ((n / 86400000 - elapsed k) + 1) (n % 86400000) = record {
      year_from = omega arith;
      year_to = omega arith;
      day_from = omega arith;
      day_to = omega (arith, days_of_months (2000 + k));
      within_day = omega arith;
    } in
    let s = stamp_at k (n / 86400000 - elapsed k) (n % 86400000) v in
    (s.0, s.1 ∙ rejoined (elapsed k) n low)

every : (years n : ℕ) → years ≤ 400 → n < elapsed years * 86400000 → (s : Stamp) × (instant_of s ≡ n)
every years n h l =
    let f = find_year years (n / 86400000) (omega arith) in
    let k = f.1 in
    in_year f.0 n (omega arith) f.2 f.3

pub one_stamp_each : OneStampEach
one_stamp_each = record {
  apart = λ a b e. ordered.connected a b (not_before a b e) (not_before b a (sym e));
  within = λ s. let v = valid_of s in let m = v.within_day in omega (arith, within_years s);
  all = λ n h. every 400 n (omega arith) h;
}

pub known : Known
known = record { days = refl; leap_2000 = refl; leap_2024 = refl; common_2023 = refl; common_2100 = refl }
