-- The worked rows, each by computation or from a refused test.
use Rattle.std.proofs.Common.{◌≡◌, ℕ, ◌+◌, ◌*◌, Bool, true, false, T, is_ok, Ok, Err, sym, refl, ap, arith}
use Rattle.std.proofs.lemmas.Bool.Decides.{nat_tests}
use Rattle.std.specs.Option.{ok_or}
use Rattle.refusal.specs.declared.Refusal.TheVariants.{NotAKey}
use Rattle.keys.specs.Making.{made}
use Rattle.keys.specs.Dates.{valid_stamp}
use Rattle.keys.specs.Identities.{valid_port}
use Rattle.keys.specs.Stamps.{stamp_of, stamp_kind}
use Rattle.keys.specs.declared.stamp.Stamp.{Stamp}
use Rattle.plans.proofs.ExampleLaws.{example_holds}
use Rattle.rows.specs.Rows.{Rows}

-- What a test refuses is not made, what it takes is, and what is made is made so.
refused : {A : Type 0} (b : Bool) (f : T b → A) → b ≡ false → ok_or (made b f) NotAKey ≡ Err NotAKey
refused true f e = let z : ◌≡◌ {A = ℕ} 0 1 = cc in absurd (omega arith)
refused false f e = refl

taken : {A : Type 0} (b : Bool) (f : T b → A) → b ≡ true → is_ok (ok_or (made b f) NotAKey) ≡ true
taken true f e = refl
taken false f e = let z : ◌≡◌ {A = ℕ} 0 1 = cc in absurd (omega arith)

from : {A : Type 0} (b : Bool) (f : T b → A) (a : A) → ok_or (made b f) NotAKey ≡ Ok a → (t : T b) × (f t ≡ a)
from true f a e = (tt, cc)
from false f a e = let z : ◌≡◌ {A = ℕ} 0 1 = cc in absurd (omega arith)

no_stamp : (y d ms : ℕ) → valid_stamp y d ms ≡ false → stamp_of y d ms ≡ Err NotAKey
no_stamp y d ms e = refused (valid_stamp y d ms) (λ p. record { year = y; day = d; millisecond = ms; ok = p }) e

form_of : (y d ms : ℕ) (s : Stamp) → stamp_of y d ms ≡ Ok s → stamp_kind.form s ≡ (ms, y * 512 + d)
form_of y d ms s e =
    let made_so = from (valid_stamp y d ms) (λ p. record { year = y; day = d; millisecond = ms; ok = p }) s e in
    sym (ap (λ (t : Stamp). stamp_kind.form t) made_so.1)

year_of : (y d ms : ℕ) (a : Stamp) → stamp_of y d ms ≡ Ok a → a.year ≡ y
year_of y d ms a e =
    let made_so = from (valid_stamp y d ms) (λ p. record { year = y; day = d; millisecond = ms; ok = p }) a e in
    sym (ap (λ (s : Stamp). s.year) made_so.1)

pub rows : Rows
rows = record {
  day_366_of_2000 = refl;
  day_366_of_2024 = refl;
  day_366_of_2023 = λ ms. no_stamp 2023 366 ms (grind (arith, nat_tests));
  day_366_of_2100 = λ ms. no_stamp 2100 366 ms (grind (arith, nat_tests));
  day_0 = λ year ms. no_stamp year 0 ms (grind (arith, nat_tests));
  millisecond_past_day_1 = λ year. no_stamp year 1 86400000 (grind (arith, nat_tests));
  port_65534 = λ identity h. taken (valid_port identity 65534) (λ p. record { identity = identity; number = 65534; ok = p }) (grind (arith, nat_tests));
  port_65535 = λ identity. refused (valid_port identity 65535) (λ p. record { identity = identity; number = 65535; ok = p }) (grind (arith, nat_tests));
  last_of_2023 = refl;
  first_of_2024 = refl;
  new_year = λ a b ms e f. rw (year_of 2023 365 86399999 a e, year_of 2024 1 ms b f);
  words = λ s e. form_of 2024 366 0 s e;
  put_remove_put = refl;
  three_elements = refl;
  split_of_17 = refl;
  steps_of_17 = example_holds.split.steps;
  leaf_64 = refl;
  line_18_of_19 = refl;
}
