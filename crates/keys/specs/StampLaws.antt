-- The laws of stamps as keys.
use Rattle.std.specs.Prelude.{◌≡◌, ℕ, ◌+◌, ◌*◌, ◌/◌, ◌%◌, ◌<◌, T, Some, refl}
use Rattle.std.proofs.Common.{sym, ap, ◌∙◌, arith}
use Rattle.std.proofs.lemmas.Bool.Decides.{nat_tests}
use Rattle.keys.specs.Kind.{Ordered, Formed}
use Rattle.keys.specs.Dates.{valid_stamp}
use Rattle.keys.specs.Stamps.{stamp, stamp_kind}
use Rattle.keys.specs.declared.stamp.Stamp.{Stamp}
use Rattle.keys.specs.Lexical.{made_some, made_from, same_pair, then_irreflexive, then_trans, then_tied, lt_irreflexive, lt_trans, lt_tied}

day_small : (a : Stamp) → a.day < 512
day_small a = let t : T (valid_stamp a.year a.day a.millisecond) = a.ok in grind (arith, nat_tests)

of_fields : (a : Stamp) → stamp a.year a.day a.millisecond ≡ Some a
of_fields a = made_some (valid_stamp a.year a.day a.millisecond) _ a.ok

pub same_fields : (a b : Stamp) → a.year ≡ b.year → a.day ≡ b.day → a.millisecond ≡ b.millisecond → a ≡ b
same_fields a b y d m = cc (of_fields a, of_fields b)

split : (y d : ℕ) → d < 512 → ((y * 512 + d) / 512 ≡ y) × ((y * 512 + d) % 512 ≡ d)
split y d h = omega arith

joined : (n : ℕ) → (n / 512) * 512 + n % 512 ≡ n
joined n = omega arith

pub ordered : Ordered stamp_kind
ordered = record {
  irreflexive = λ a. then_irreflexive a.year _ (then_irreflexive a.day _ (lt_irreflexive a.millisecond));
  transitive = λ a b c h k.
      then_trans a.year b.year c.year _ _ _ h k
      (λ i j. then_trans a.day b.day c.day _ _ _ i j (lt_trans a.millisecond b.millisecond c.millisecond));
  connected = λ a b h k.
      let y = then_tied a.year b.year _ _ h k in
      let d = then_tied a.day b.day _ _ y.1 y.2 in
      same_fields a b y.0 d.0 (lt_tied a.millisecond b.millisecond d.1 d.2);
}

read_back : (a : Stamp) → stamp_kind.read (stamp_kind.form a) ≡ Some a
read_back a = let s = split a.year a.day (day_small a) in rw (s.0, s.1) (of_fields a)

some_same : (a b : Stamp) → Some a ≡ Some b → a ≡ b
some_same a b e = cc

pub formed : Formed stamp_kind
formed = record {
  apart = λ a b e. some_same a b (sym (read_back a) ∙ ap stamp_kind.read e ∙ read_back b);
  back = read_back;
  only = λ w a e.
      let m = made_from (valid_stamp (w.1 / 512) (w.1 % 512) w.0) _ a e in
      sym (ap stamp_kind.form m.1) ∙ same_pair _ w refl (joined w.1);
}
