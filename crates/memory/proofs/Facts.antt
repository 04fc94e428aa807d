-- What a granted call says of a memory, for those who build on one.
use Rattle.std.proofs.Common.{◌≡◌, ℕ, ◌/◌, ◌<◌, false, cond, eqb, List, get_or, is_ok, Ok, Err, sym, ap, ◌∙◌, arith}
use Rattle.std.proofs.lemmas.Bool.{cond-true, cond-false}
use Rattle.std.proofs.lemmas.Bool.Decides.{nat_tests}
use Rattle.refusal.specs.declared.Refusal.{Refusal}
use Rattle.memory.specs.Meaning.{Words, size_of, exhausted, store_answer, stored, after_store, flush_answer, flushed, after_flush, CutOf, Settled, chosen, odd_at, renewed, settle_answer, after_settle}
use Rattle.memory.proofs.Words.{tabled_at}

-- What a granted store found.
pub record Storable (m : Words) (i : ℕ) : Type 0 where
  pub inside : i < size_of m
  pub powered : exhausted m.power ≡ false
  pub level : get_or m.live i 0 ≡ get_or m.firm i 0

pub storable : (m : Words) (i : ℕ) → Ok tt ≡ store_answer m i → Storable m i
storable m i e = record { inside = grind (arith, nat_tests); powered = grind (arith, nat_tests); level = grind (arith, nat_tests) }

pub after_granted_store : (m : Words) (i w : ℕ) → Ok tt ≡ store_answer m i → after_store m i w ≡ stored m i w
after_granted_store m i w e = cond-true (is_ok (store_answer m i)) (stored m i w) m (sym (ap is_ok e))

pub after_granted_flush : (m : Words) (l : ℕ) → Ok tt ≡ flush_answer m l → after_flush m l ≡ flushed m l
after_granted_flush m l e = cond-true (is_ok (flush_answer m l)) (flushed m l) m (sym (ap is_ok e))

pub flushed_at : (m : Words) (l k : ℕ) → k < size_of m → get_or (flushed m l).firm k 0 ≡ cond (eqb (k / 8) l) (get_or m.live k 0) (get_or m.firm k 0)
flushed_at m l k h = tabled_at (size_of m) _ k h

pub after_granted_settle : (m : Words) (choice : List ℕ) (steps : ℕ) → Ok tt ≡ settle_answer m choice
    → after_settle m choice steps ≡ chosen m choice steps
after_granted_settle m choice steps e = cond-true (is_ok (settle_answer m choice)) _ m (sym (ap is_ok e))

pub after_refused_settle : (m : Words) (choice : List ℕ) (steps : ℕ) {e : Refusal} → Err e ≡ settle_answer m choice → m ≡ after_settle m choice steps
after_refused_settle m choice steps e = sym (cond-false (is_ok (settle_answer m choice)) (chosen m choice steps) m (sym (ap is_ok e)))

-- A granted settle leaves what a cut may leave, and that is settled.
pub cut_of : (m m' : Words) (choice : List ℕ) (steps : ℕ) → Ok tt ≡ settle_answer m choice
    → m' ≡ after_settle m choice steps → CutOf m m' × Settled m'
cut_of m m' choice steps e after =
    let left = after ∙ after_granted_settle m choice steps e in
    (((λ i. odd_at choice (m.choosing.place i)), renewed m.power steps, left), ap (λ x. x.live) left ∙ sym (ap (λ x. x.firm) left))
