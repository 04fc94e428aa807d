-- A leaf has as many pairs as elements, less an even number.
use Rattle.std.proofs.Common.{◌≡◌, ℕ, zero, suc, ◌%◌, ◌<◌, true, ◌&&◌, ◌⊎◌, List, [], ◌∷◌, length, Some, None, Option, sym, refl, ◌∙◌, subst, inl, inr, ⊎_elim, arith}
use Rattle.std.proofs.lemmas.Bool.{cases_Bool, cond-false, and_parts}
use Rattle.keys.specs.InWords.{WordKind, WordOrdered}
use Rattle.leaves.specs.declared.leaf.Element.{Element}
use Rattle.leaves.specs.declared.leaf.Pair.{Pair}
use Rattle.leaves.specs.Layout.{element}
use Rattle.leaves.specs.Pairs.{equal, lookup, insert, delete, applied, pairs}
use Rattle.leaves.specs.Opening.{sign_fits, after, good}
use Rattle.leaves.specs.Ascent.{Ascending}
use Rattle.leaves.proofs.PairLaws.{equal_true, equal_self}
use Rattle.leaves.proofs.AscentLaws.{each_map, ascending_pairs}
use Rattle.leaves.proofs.BookLaws.{some_none}
use Rattle.books.proofs.QuestionLaws.{unlike_back}
use Rattle.appends.specs.Parity.{Alternates}
use Rattle.appends.proofs.AppendBook.{delete_none}

module _ (o : WordKind) (ordered : WordOrdered o) where
  pub length_insert : (q : Pair) (ps : List Pair) → lookup q.key ps ≡ None → length (insert o q ps) ≡ suc (length ps)
  length_insert q [] h = refl
  length_insert q (p ∷ ps) h =
      let more = length_insert q ps in
      let tied = ordered.connected p.key q.key in
      let self = equal_self q.key in grind arith

  pub length_delete : (w : ℕ × ℕ) (v : ℕ) (ps : List Pair) → Ascending o ps → lookup w ps ≡ Some v → suc (length (delete w ps)) ≡ length ps
  length_delete w v [] up h = some_none h refl
  length_delete w v (p ∷ ps) up h =
      ⊎_elim
      (λ same.
      let is : p.key ≡ w = equal_true p.key w same in
      let none = delete_none o ordered w ps (each_map o _ _ (λ x lt. unlike_back o ordered x w (subst (λ y. o.before y x ≡ true) is lt)) ps up.0) in grind arith)
      (λ other. let more = length_delete w v ps up.1 (sym (cond-false (equal p.key w) _ _ other) ∙ h) in grind arith)
      (cases_Bool (equal p.key w))

  -- one good element more changes the number of pairs by one
  pub one_more : (e : Element) (ps : List Pair) → Ascending o ps → (r : Option ℕ) → lookup e.key ps ≡ r → sign_fits e.sign e.reading r ≡ true → (length (applied o e ps) ≡ suc (length ps)) ⊎ (suc (length (applied o e ps)) ≡ length ps)
  one_more e ps up None is fits = let more = length_insert (record { key = e.key; reading = e.reading }) ps is in inl (grind arith)
  one_more e ps up (Some v) is fits = let less = length_delete e.key v ps up is in inr (grind arith)

  pub alternates : (m : List ℕ) (bound : Option (ℕ × ℕ)) (k n : ℕ) → ((s : ℕ) → s < n → good o bound (pairs o m k s) (element m k s) ≡ true) → length (pairs o m k n) % 2 ≡ n % 2
  alternates m bound k zero each = refl
  alternates m bound k (suc n) each =
      let even = alternates m bound k n (λ s l. each s (omega arith)) in
      let e = element m k n in
      let fits = (and_parts (o.valid e.key && after o bound e.key) _ (each n (omega arith))).1 in
      ⊎_elim (λ up. omega (arith, even, up)) (λ down. omega (arith, even, down))
      (one_more e (pairs o m k n) (ascending_pairs o ordered m k n) (lookup e.key (pairs o m k n)) refl fits)

pub alternates_hold : Alternates
alternates_hold o ordered m bound k n each = alternates o ordered m bound k n each
