-- The pairs of a leaf ascend, for every content; the pairs of a memory that opens ascend from leaf to leaf.
use Rattle.std.proofs.Common.{◌≡◌, ℕ, zero, suc, ◌<◌, true, not, eqb, List, [], ◌∷◌, length, get_or, subst, arith}
use Rattle.std.proofs.lemmas.Bool.{cond_both}
use Rattle.keys.specs.InWords.{WordKind, WordOrdered}
use Rattle.leaves.specs.declared.leaf.Pair.{Pair}
use Rattle.leaves.specs.Layout.{element}
use Rattle.leaves.specs.declared.leaf.Element.{Element}
use Rattle.leaves.specs.Pairs.{equal, insert, delete, applied, folded, pairs}
use Rattle.leaves.specs.Ascent.{Each, Ascending}

-- what holds of every key holds of the one at a place
pub each_at : (P : ℕ × ℕ → Type 0) (ps : List Pair) (i : ℕ) (d : Pair) → Each P ps → i < length ps → P (get_or ps i d).key
each_at P [] i d h lt = absurd (omega arith)
each_at P (p ∷ ps) zero d h lt = h.0
each_at P (p ∷ ps) (suc i) d h lt = each_at P ps i d h.1 (omega arith)

module _ (o : WordKind) where
  pub each_map : (P Q : ℕ × ℕ → Type 0) → ((k : ℕ × ℕ) → P k → Q k) → (ps : List Pair) → Each P ps → Each Q ps
  each_map P Q f [] h = tt
  each_map P Q f (p ∷ ps) h = (f p.key h.0, each_map P Q f ps h.1)

  pub each_insert : (P : ℕ × ℕ → Type 0) (q : Pair) (ps : List Pair) → P q.key → Each P ps → Each P (insert o q ps)
  each_insert P q [] at h = (at, tt)
  each_insert P q (p ∷ ps) at h =
      cond_both (o.before p.key q.key) _ _ (Each P) (λ _. (h.0, each_insert P q ps at h.1))
      (λ _. (at, cond_both (o.before q.key p.key) _ _ (Each P) (λ _. h) (λ _. h.1)))

  pub each_delete : (P : ℕ × ℕ → Type 0) (k : ℕ × ℕ) (ps : List Pair) → Each P ps → Each P (delete k ps)
  each_delete P k [] h = tt
  each_delete P k (p ∷ ps) h =
      cond_both (not (equal p.key k)) _ _ (Each P) (λ _. (h.0, each_delete P k ps h.1)) (λ _. each_delete P k ps h.1)

  -- what holds of the key of every element holds of every pair's key
  pub each_pairs : (P : ℕ × ℕ → Type 0) (m : List ℕ) (l n : ℕ) → ((s : ℕ) → s < n → P (element m l s).key) → Each P (pairs o m l n)
  each_pairs P m l zero at = tt
  each_pairs P m l (suc n) at =
      let older = each_pairs P m l n (λ s h. at s (omega arith)) in
      cond_both (eqb (element m l n).sign 1) _ _ (Each P) (λ _. each_insert P _ (pairs o m l n) (at n (omega arith)) older) (λ _. each_delete P (element m l n).key (pairs o m l n) older)

module _ (o : WordKind) (ordered : WordOrdered o) where
  pub ascending_insert : (q : Pair) (ps : List Pair) → Ascending o ps → Ascending o (insert o q ps)
  ascending_insert q [] h = (tt, tt)
  ascending_insert q (p ∷ ps) h =
      cond_both (o.before p.key q.key) _ _ (Ascending o) (λ lt. (each_insert o _ q ps lt h.0, ascending_insert q ps h.1))
      (λ ge. cond_both (o.before q.key p.key) _ _ (λ qs. Ascending o (q ∷ qs))
      (λ gt. ((gt, each_map o (λ a. o.before p.key a ≡ true) (λ a. o.before q.key a ≡ true) (λ a. ordered.transitive q.key p.key a gt) ps h.0), h))
      (λ le. (subst (λ a. Each (λ b. o.before a b ≡ true) ps) (ordered.connected p.key q.key ge le) h.0, h.1)))

  pub ascending_delete : (k : ℕ × ℕ) (ps : List Pair) → Ascending o ps → Ascending o (delete k ps)
  ascending_delete k [] h = tt
  ascending_delete k (p ∷ ps) h =
      cond_both (not (equal p.key k)) _ _ (Ascending o) (λ _. (each_delete o _ k ps h.0, ascending_delete k ps h.1))
      (λ _. ascending_delete k ps h.1)

  pub ascending_pairs : (m : List ℕ) (l n : ℕ) → Ascending o (pairs o m l n)
  ascending_pairs m l zero = tt
  ascending_pairs m l (suc n) =
      cond_both (eqb (element m l n).sign 1) _ _ (Ascending o) (λ _. ascending_insert _ (pairs o m l n) (ascending_pairs m l n)) (λ _. ascending_delete (element m l n).key (pairs o m l n) (ascending_pairs m l n))

  ascending_applied : (e : Element) (ps : List Pair) → Ascending o ps → Ascending o (applied o e ps)
  ascending_applied e ps h = cond_both (eqb e.sign 1) _ _ (Ascending o) (λ _. ascending_insert _ ps h) (λ _. ascending_delete e.key ps h)

  pub ascending_folded : (ps : List Pair) (es : List Element) → Ascending o ps → Ascending o (folded o ps es)
  ascending_folded ps [] h = h
  ascending_folded ps (e ∷ es) h = ascending_folded (applied o e ps) es (ascending_applied e ps h)
