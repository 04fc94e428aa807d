-- Ports as a kind of key.
use Rattle.std.specs.Prelude.{ℕ, Option, Result, nat_lt}
use Rattle.std.specs.Option.{ok_or}
use Rattle.refusal.specs.declared.Refusal.{Refusal}
use Rattle.refusal.specs.declared.Refusal.TheVariants.{NotAKey}
use Rattle.keys.specs.Kind.{Kind}
use Rattle.keys.specs.Making.{made, then_by}
use Rattle.keys.specs.Identities.{valid_port}
use Rattle.keys.specs.declared.port.Port.{Port}

-- The port of an identity and a number, if they are one.
abbrev pub port : ℕ → ℕ → Option Port
port identity number = made (valid_port identity number) (λ p. record { identity = identity; number = number; ok = p })

abbrev pub port_of : ℕ → ℕ → Result Port Refusal
port_of identity number = ok_or (port identity number) NotAKey

-- The first word is the identity, the second is the number. The order is by identity and number.
abbrev pub port_kind : Kind Port
port_kind = record {
  code = 2;
  form = λ p. (p.identity, p.number);
  read = λ w. port w.0 w.1;
  before = λ a b. then_by a.identity b.identity (nat_lt a.number b.number);
}
