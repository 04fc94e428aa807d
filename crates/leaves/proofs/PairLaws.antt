-- What one element more does to the pairs of a leaf.
use Rattle.std.proofs.Common.{◌≡◌, ℕ, true, false, cond, List, [], ◌∷◌, Some, None, sym, refl, ap, ◌∙◌, ⊎_elim, arith}
use Rattle.std.proofs.lemmas.Bool.{cases_Bool, both_ways}
use Rattle.std.proofs.lemmas.Bool.Decides.{nat_tests}
use Rattle.keys.specs.InWords.{WordKind, WordOrdered}
use Rattle.leaves.specs.declared.leaf.Element.{Element}
use Rattle.leaves.specs.declared.leaf.Pair.{Pair}
use Rattle.leaves.specs.Pairs.{equal, lookup, insert, delete, held, applied}

pub equal_true : (a b : ℕ × ℕ) → equal a b ≡ true → a ≡ b
equal_true a b e =
    let x : a.0 ≡ b.0 = grind (arith, nat_tests) in
    let y : a.1 ≡ b.1 = grind (arith, nat_tests) in
    ap (λ n. (n, a.1)) x ∙ ap (λ n. (b.0, n)) y

pub equal_self : (a : ℕ × ℕ) → equal a a ≡ true
equal_self a = grind (arith, nat_tests)

module _ (o : WordKind) (ordered : WordOrdered o) where
  -- words before others are not the same
  other : (a b w : ℕ × ℕ) → o.before a b ≡ true → equal a w ≡ true → equal b w ≡ false
  other a b w h e =
      ⊎_elim (λ f. absurd (both_ways _ (ordered.irreflexive b) (rw (equal_true a w e ∙ sym (equal_true b w f)) at h))) (λ f. f)
      (cases_Bool (equal b w))

  pub lookup_insert : (w : ℕ × ℕ) (q : Pair) (ps : List Pair) → lookup w (insert o q ps) ≡ cond (equal q.key w) (Some q.reading) (lookup w ps)
  lookup_insert w q [] = refl
  lookup_insert w q (p ∷ ps) =
      let ih = lookup_insert w q ps in
      let far = other p.key q.key w in
      let tied = ordered.connected p.key q.key in
      grind arith

  pub lookup_delete : (w k : ℕ × ℕ) (ps : List Pair) → lookup w (delete k ps) ≡ cond (equal k w) None (lookup w ps)
  lookup_delete w k [] = grind arith
  lookup_delete w k (p ∷ ps) =
      let ih = lookup_delete w k ps in
      let tied = equal_true p.key k in
      let left = equal_true p.key w in
      let right = equal_true k w in
      let self = equal_self k in
      grind arith

  -- The newest element of a key decides.
  pub lookup_applied : (w : ℕ × ℕ) (e : Element) (ps : List Pair) → lookup w (applied o e ps) ≡ cond (equal e.key w) (held e) (lookup w ps)
  lookup_applied w e ps =
      let i = lookup_insert w (record { key = e.key; reading = e.reading }) ps in
      let d = lookup_delete w e.key ps in
      grind arith
