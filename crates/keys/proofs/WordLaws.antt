-- The order of all pairs of words, for every kind of key under its laws.
use Rattle.std.proofs.Common.{◌≡◌, ℕ, Bool, true, false, Some, None, Option, sym, refl, ap, ◌∙◌}
use Rattle.std.proofs.lemmas.Bool.{true≢false}
use Rattle.keys.specs.Kind.{Kind, Ordered, Formed}
use Rattle.keys.specs.InWords.{in_words, keys_first, numbers_before, WordOrdered}
use Rattle.keys.specs.Lexical.{same_pair, then_irreflexive, then_trans, then_tied, lt_irreflexive, lt_trans, lt_tied}

pair_irreflexive : (v : ℕ × ℕ) → numbers_before v v ≡ false
pair_irreflexive v = then_irreflexive v.0 _ (lt_irreflexive v.1)

pair_transitive : (u v w : ℕ × ℕ) → numbers_before u v ≡ true → numbers_before v w ≡ true → numbers_before u w ≡ true
pair_transitive u v w h k = then_trans u.0 v.0 w.0 _ _ _ h k (lt_trans u.1 v.1 w.1)

pair_connected : (v w : ℕ × ℕ) → numbers_before v w ≡ false → numbers_before w v ≡ false → v ≡ w
pair_connected v w h k =
    let t = then_tied v.0 w.0 _ _ h k in
    same_pair v w t.0 (lt_tied v.1 w.1 t.1 t.2)

module _ {K : Type 0} (k : Kind K) (ordered : Ordered k) where
  first_irreflexive : (o : Option K) (r : Bool) → r ≡ false → keys_first k.before o o r ≡ false
  first_irreflexive (Some a) r h = ordered.irreflexive a
  first_irreflexive None r h = h

  first_transitive : (o p q : Option K) (r s t : Bool) → (r ≡ true → s ≡ true → t ≡ true) → keys_first k.before o p r ≡ true → keys_first k.before p q s ≡ true → keys_first k.before o q t ≡ true
  first_transitive (Some a) (Some b) (Some c) r s t more h g = ordered.transitive a b c h g
  first_transitive (Some a) (Some b) None r s t more h g = refl
  first_transitive (Some a) None (Some c) r s t more h g = absurd (true≢false (sym g))
  first_transitive (Some a) None None r s t more h g = refl
  first_transitive None (Some b) q r s t more h g = absurd (true≢false (sym h))
  first_transitive None None (Some c) r s t more h g = g
  first_transitive None None None r s t more h g = more h g

  first_connected : Formed k → (v w : ℕ × ℕ) (o p : Option K) → k.read v ≡ o → k.read w ≡ p → keys_first k.before o p (numbers_before v w) ≡ false → keys_first k.before p o (numbers_before w v) ≡ false → v ≡ w
  first_connected formed v w (Some a) (Some b) d e h g =
      sym (formed.only v a d) ∙ ap k.form (ordered.connected a b h g) ∙ formed.only w b e
  first_connected formed v w (Some a) None d e h g = absurd (true≢false h)
  first_connected formed v w None (Some b) d e h g = absurd (true≢false g)
  first_connected formed v w None None d e h g = pair_connected v w h g

  pub in_words_ordered : Formed k → WordOrdered (in_words k)
  in_words_ordered formed = record {
    irreflexive = λ v. first_irreflexive (k.read v) _ (pair_irreflexive v);
    transitive = λ u v w. first_transitive (k.read u) (k.read v) (k.read w) _ _ _ (pair_transitive u v w);
    connected = λ v w. first_connected formed v w (k.read v) (k.read w) refl refl;
  }

module _ {K : Type 0} (k : Kind K) (formed : Formed k) where
  -- Words of keys are ordered as the keys are.
  pub before_of_keys : (a b : K) → (in_words k).before (k.form a) (k.form b) ≡ k.before a b
  before_of_keys a b = rw (formed.back a, formed.back b)

  -- The words of a key are valid.
  pub valid_of_keys : (a : K) → (in_words k).valid (k.form a) ≡ true
  valid_of_keys a = rw (formed.back a)
