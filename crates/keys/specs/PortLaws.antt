-- The laws of ports as keys.
use Rattle.std.specs.Prelude.{◌≡◌, ℕ, Some}
use Rattle.std.proofs.Common.{sym, ap}
use Rattle.keys.specs.Kind.{Ordered, Formed}
use Rattle.keys.specs.Identities.{valid_port}
use Rattle.keys.specs.Ports.{port, port_kind}
use Rattle.keys.specs.declared.port.Port.{Port}
use Rattle.keys.specs.Lexical.{made_some, made_from, then_irreflexive, then_trans, then_tied, lt_irreflexive, lt_trans, lt_tied}

read_back : (a : Port) → port a.identity a.number ≡ Some a
read_back a = made_some (valid_port a.identity a.number) _ a.ok

same_fields : (a b : Port) → a.identity ≡ b.identity → a.number ≡ b.number → a ≡ b
same_fields a b i n = cc (read_back a, read_back b)

pub ordered : Ordered port_kind
ordered = record {
  irreflexive = λ a. then_irreflexive a.identity _ (lt_irreflexive a.number);
  transitive = λ a b c h k. then_trans a.identity b.identity c.identity _ _ _ h k (lt_trans a.number b.number c.number);
  connected = λ a b h k.
      let i = then_tied a.identity b.identity _ _ h k in
      same_fields a b i.0 (lt_tied a.number b.number i.1 i.2);
}

pub formed : Formed port_kind
formed = record {
  apart = λ a b e. same_fields a b (ap (λ (w : ℕ × ℕ). w.0) e) (ap (λ (w : ℕ × ℕ). w.1) e);
  back = read_back;
  only = λ w a e. sym (ap port_kind.form (made_from (valid_port w.0 w.1) _ a e).1);
}
