-- A kind of key: its code, a key as two words, the key that two words are, and the order of keys.
use Rattle.std.specs.Prelude.{◌≡◌, ℕ, Bool, true, false, Some, Option, Result}
use Rattle.std.specs.Option.{ok_or}
use Rattle.refusal.specs.declared.Refusal.{Refusal}
use Rattle.refusal.specs.declared.Refusal.TheVariants.{NotAKey}

pub record Kind (K : Type 0) : Type 0 where
  pub code : ℕ
  pub form : K → ℕ × ℕ
  pub read : ℕ × ℕ → Option K
  pub before : K → K → Bool

-- The laws of the order: no key is before itself, before is transitive, and of two different keys one is before the other.
pub record Ordered {K : Type 0} (k : Kind K) : Type 0 where
  pub irreflexive : (a : K) → k.before a a ≡ false
  pub transitive : (a b c : K) → k.before a b ≡ true → k.before b c ≡ true → k.before a c ≡ true
  pub connected : (a b : K) → k.before a b ≡ false → k.before b a ≡ false → a ≡ b

-- The laws of the form: equal words mean equal keys, a key's words are read as that key, and words that are read as a key are its words.
pub record Formed {K : Type 0} (k : Kind K) : Type 0 where
  pub apart : (a b : K) → k.form a ≡ k.form b → a ≡ b
  pub back : (a : K) → k.read (k.form a) ≡ Some a
  pub only : (w : ℕ × ℕ) (a : K) → k.read w ≡ Some a → k.form a ≡ w

-- The key that two words are, or the refusal of words that are no key.
abbrev pub unpacked : {K : Type 0} → Kind K → ℕ × ℕ → Result K Refusal
unpacked k w = ok_or (k.read w) NotAKey
