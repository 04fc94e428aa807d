-- A kind of key as words alone show it: an order of all pairs of words, keys or not.
use Rattle.std.specs.Prelude.{◌≡◌, ℕ, Bool, true, false, is_some, Some, None, Option, nat_lt}
use Rattle.keys.specs.Kind.{Kind}
use Rattle.keys.specs.Making.{then_by}

-- A kind by its words: its code, which two words are a key, and which come before which.
pub record WordKind : Type 0 where
  pub code : ℕ
  pub valid : ℕ × ℕ → Bool
  pub before : ℕ × ℕ → ℕ × ℕ → Bool

-- By first and then second numbers.
abbrev pub numbers_before : ℕ × ℕ → ℕ × ℕ → Bool
numbers_before v w = then_by v.0 w.0 (nat_lt v.1 w.1)

-- Two keys by their order, a key before a pair that is no key, and two pairs that are no keys by the rest.
abbrev pub keys_first : {K : Type 0} → (K → K → Bool) → Option K → Option K → Bool → Bool
keys_first before (Some a) (Some b) rest = before a b
keys_first before (Some a) None rest = true
keys_first before None (Some b) rest = false
keys_first before None None rest = rest

-- A kind of key in words: its keys stand in their own order, before all words that are no key.
abbrev pub in_words : {K : Type 0} → Kind K → WordKind
in_words k =
    record { code = k.code; valid = λ w. is_some (k.read w); before = λ v w. keys_first k.before (k.read v) (k.read w) (numbers_before v w) }

-- The laws of the order over all pairs of words.
pub record WordOrdered (o : WordKind) : Type 0 where
  pub irreflexive : (v : ℕ × ℕ) → o.before v v ≡ false
  pub transitive : (u v w : ℕ × ℕ) → o.before u v ≡ true → o.before v w ≡ true → o.before u w ≡ true
  pub connected : (v w : ℕ × ℕ) → o.before v w ≡ false → o.before w v ≡ false → v ≡ w
