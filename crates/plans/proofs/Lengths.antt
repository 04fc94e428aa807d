-- How many pairs there are after a call's elements.
use Rattle.std.proofs.Common.{◌≡◌, ℕ, zero, suc, ◌≤◌, ◌==◌, List, [], ◌∷◌, length, Some, None, ◌∙◌, arith}
use Rattle.std.proofs.lemmas.Bool.{cond_both, cond-true}
use Rattle.keys.specs.InWords.{WordKind, WordOrdered}
use Rattle.leaves.specs.declared.leaf.Pair.{Pair}
use Rattle.leaves.specs.Layout.{element}
use Rattle.leaves.specs.Pairs.{equal, lookup, insert, delete, pairs}
use Rattle.leaves.specs.Ascent.{Ascending}
use Rattle.leaves.proofs.PairLaws.{equal_self, lookup_applied}
use Rattle.appends.specs.Append.{signed}
use Rattle.appends.proofs.ParityLaws.{length_insert, length_delete}

module _ (o : WordKind) where
  insert_most : (q : Pair) (ps : List Pair) → length (insert o q ps) ≤ suc (length ps)
  insert_most q [] = omega arith
  insert_most q (p ∷ ps) = let more = insert_most q ps in grind arith

  delete_most : (w : ℕ × ℕ) (ps : List Pair) → length (delete w ps) ≤ length ps
  delete_most w [] = omega arith
  delete_most w (p ∷ ps) = let more = delete_most w ps in grind arith

  -- A leaf has no more pairs than elements.
  pub pairs_most : (m : List ℕ) (k n : ℕ) → length (pairs o m k n) ≤ n
  pairs_most m k zero = omega arith
  pairs_most m k (suc n) =
      let e = element m k n in
      let q : Pair = record { key = e.key; reading = e.reading } in
      let more = pairs_most m k n in
      cond_both (e.sign == 1) (insert o q (pairs o m k n)) (delete e.key (pairs o m k n)) (λ ps. length ps ≤ suc n) (λ t. omega (arith, more, insert_most q (pairs o m k n))) (λ f. omega (arith, more, delete_most e.key (pairs o m k n)))

module _ (o : WordKind) (ordered : WordOrdered o) where
  pub lookup_gone : (w : ℕ × ℕ) (ps : List Pair) → lookup w (delete w ps) ≡ None
  lookup_gone w ps = lookup_applied o ordered w (signed w (2, 0)) ps ∙ cond-true (equal w w) _ _ (equal_self w)

  -- A pair with another reading in the place of one leaves as many.
  pub length_changed : (w : ℕ × ℕ) (v r : ℕ) (ps : List Pair) → Ascending o ps → lookup w ps ≡ Some v → length (insert o (record { key = w; reading = r }) (delete w ps)) ≡ length ps
  length_changed w v r ps up h = length_insert o ordered (record { key = w; reading = r }) (delete w ps) (lookup_gone w ps) ∙ length_delete o ordered w v ps up h
