-- The laws of GPS times as keys.
use Rattle.std.specs.Prelude.{◌≡◌, ℕ, ◌<◌, T, Some}
use Rattle.std.proofs.Common.{sym, ap, arith}
use Rattle.std.proofs.lemmas.Bool.Decides.{nat_tests}
use Rattle.keys.specs.Kind.{Ordered, Formed}
use Rattle.keys.specs.Lexical.{made_some, made_from, lt_irreflexive, lt_trans, lt_tied}
use Rattle.own_key.specs.Weeks.{instant, valid_gps}
use Rattle.own_key.specs.GpsTimes.{gps, gps_kind}
use Rattle.own_key.specs.declared.gps.GpsTime.{GpsTime}

read_back : (a : GpsTime) → gps a.week a.second ≡ Some a
read_back a = made_some (valid_gps a.week a.second) _ a.ok

same_fields : (a b : GpsTime) → a.week ≡ b.week → a.second ≡ b.second → a ≡ b
same_fields a b w s = cc (read_back a, read_back b)

second_small : (a : GpsTime) → a.second < 604800
second_small a = let t : T (valid_gps a.week a.second) = a.ok in grind (arith, nat_tests)

-- One instant is one week and one second of it.
one_instant : (w s v t : ℕ) → s < 604800 → t < 604800 → instant w s ≡ instant v t → (w ≡ v) × (s ≡ t)
one_instant w s v t h k e = omega arith

pub ordered : Ordered gps_kind
ordered = record {
  irreflexive = λ a. lt_irreflexive (instant a.week a.second);
  transitive = λ a b c. lt_trans (instant a.week a.second) (instant b.week b.second) (instant c.week c.second);
  connected = λ a b h k.
      let e = lt_tied (instant a.week a.second) (instant b.week b.second) h k in
      let f = one_instant a.week a.second b.week b.second (second_small a) (second_small b) e in
      same_fields a b f.0 f.1;
}

pub formed : Formed gps_kind
formed = record {
  apart = λ a b e. same_fields a b (ap (λ (w : ℕ × ℕ). w.0) e) (ap (λ (w : ℕ × ℕ). w.1) e);
  back = read_back;
  only = λ w a e. sym (ap gps_kind.form (made_from (valid_gps w.0 w.1) _ a e).1);
}
