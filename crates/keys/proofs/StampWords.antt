-- The order of stamps by their words as they stand.
use Rattle.std.specs.Prelude.{◌≡◌, ℕ, ◌/◌, ◌%◌, Bool, true, false, T, is_some}
use Rattle.std.proofs.Common.{sym, arith}
use Rattle.std.proofs.lemmas.Bool.{false≢true}
use Rattle.std.proofs.lemmas.Bool.Decides.{nat_tests}
use Rattle.keys.specs.Making.{made, then_by}
use Rattle.keys.specs.InWords.{keys_first}

-- Two numbers by their parts.
pub by_parts : (u v : ℕ) (r : Bool) → then_by u v r ≡ then_by (u / 512) (v / 512) (then_by (u % 512) (v % 512) r)
by_parts u v r = grind (arith, nat_tests)

module _ {K : Type 0} (before : K → K → Bool) (rest : Bool) {r : Bool} where
  -- Where both are keys, their order.
  pub made_both : (v w : Bool) (f : T v → K) (g : T w → K) → is_some (made v f) ≡ true → is_some (made w g) ≡ true → ((p : T v) (q : T w) → r ≡ before (f p) (g q)) → r ≡ keys_first before (made v f) (made w g) rest
  made_both true true f g h k say = say tt tt
  made_both true false f g h k say = absurd (false≢true k)
  made_both false w f g h k say = absurd (false≢true h)

  -- Where neither is a key, what is left.
  pub made_neither : (v w : Bool) (f : T v → K) (g : T w → K) → is_some (made v f) ≡ false → is_some (made w g) ≡ false → r ≡ rest → r ≡ keys_first before (made v f) (made w g) rest
  made_neither false false f g h k e = e
  made_neither false true f g h k e = let z : false ≡ true = sym k in absurd (false≢true z)
  made_neither true w f g h k e = let z : false ≡ true = sym h in absurd (false≢true z)

  -- Words that are no key do not stand before a key.
  pub made_first : (v w : Bool) (f : T v → K) (g : T w → K) → is_some (made v f) ≡ false → is_some (made w g) ≡ true → r ≡ false → r ≡ keys_first before (made v f) (made w g) rest
  made_first false true f g h k e = e
  made_first false false f g h k e = absurd (false≢true k)
  made_first true w f g h k e = let z : false ≡ true = sym h in absurd (false≢true z)
