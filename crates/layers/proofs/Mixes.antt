-- Every mix of the words that a layer shows can be chosen below.
use Rattle.std.proofs.Common.{◌≡◌, ℕ, zero, suc, ◌/◌, ◌<◌, Bool, true, false, ◌&&◌, ◌||◌, eqb, get_or, sym, refl, ap, ◌∙◌, inl, inr, arith}
use Rattle.std.proofs.lemmas.Bool.{cases_eq, eq-eqb, ne_eqb}
use Rattle.memory.specs.Meaning.{Words, Lawful, Freely, size_of, odd_at}
use Rattle.layers.specs.Layers.{Numbering, Sound, View, layered, place, shown}
use Rattle.memory.proofs.Words.{length_tabled, picked_by}
use Rattle.layers.proofs.Views.{shown_picked}

-- Whether the test holds somewhere below n.
any_below : ℕ → (ℕ → Bool) → Bool
any_below zero p = false
any_below (suc n) p = p n || any_below n p

none_below : (n : ℕ) (p : ℕ → Bool) → ((k : ℕ) → k < n → p k ≡ false) → any_below n p ≡ false
unfolding any_below
none_below zero p h = refl
none_below (suc n) p h = rw (h n (omega arith), none_below n p (λ k lt. h k (omega arith)))

or_false : (b : Bool) → (b || false) ≡ b
or_false true = refl
or_false false = refl

-- Where it can hold at one place alone, it holds as it does there.
one_below : (n : ℕ) (p : ℕ → Bool) (i : ℕ) → i < n → ((k : ℕ) → k < n → (k ≡ i → ⊥) → p k ≡ false) → any_below n p ≡ p i
unfolding any_below
one_below zero p i lt h = absurd (omega arith)
one_below (suc n) p i lt h = elim (cases_eq n i) [
  | inl e ↦
      let rest : any_below n p ≡ false = none_below n p (λ k low. h k (omega arith) (λ s. omega arith)) in
      rw rest (or_false (p n) ∙ ap p e)
  | inr e ↦
      let here : p n ≡ false = h n (omega arith) e in
      rw here (one_below n p i (omega arith) (λ k low. h k (omega arith)))
]

-- The test below that says at the place of each word what a test of the layer says of the word.
moved : (ℕ → ℕ) → ℕ → (ℕ → Bool) → ℕ → Bool
moved line n keeps j = any_below n (λ i. eqb (place line i) j && keeps i)

moved_at : (line : ℕ → ℕ) (n size : ℕ) → View line n size → (keeps : ℕ → Bool) (i : ℕ) → i < n → moved line n keeps (place line i) ≡ keeps i
unfolding moved
moved_at line n size v keeps i h =
    one_below n (λ k. eqb (place line k) (place line i) && keeps k) i h other ∙ rw (eq-eqb (place line i) (place line i) refl)
  where
    other : (k : ℕ) → k < n → (k ≡ i → ⊥) → (eqb (place line k) (place line i) && keeps k) ≡ false
    other k lt e =
        rw (ne_eqb (place line k) (place line i) (λ s. e (omega (arith, v.apart (k / 8) (i / 8) (omega arith) (omega arith) (omega arith)))))

pub layered_free : {num : Numbering} {m : Words} → Sound num → Lawful m → Freely m → Freely (layered num m)
layered_free {num} {m} sound laws free keeps =
    let line = num.line (size_of m) in
    let n = num.words (size_of m) in
    let view = sound.view (size_of m) in
    let below = free (moved line n keeps) in
    let live = shown line n m.live in
    let firm = shown line n m.firm in (
      below.0,
      below.1,
      sym (shown_picked line n (λ j. odd_at below.0 (m.choosing.place j)) m.live m.firm view)
          ∙ ap (shown line n) below.2
          ∙ shown_picked line n (moved line n keeps) m.live m.firm view
          ∙ picked_by (λ i. moved line n keeps (place line i)) keeps live firm
          (λ k h. moved_at line n (size_of m) view keeps k (omega (arith, length_tabled n (λ i. get_or m.live (place line i) 0)))),
    )
