-- The words that an append leaves, leaf by leaf.
use Rattle.std.proofs.Common.{◌≡◌, ℕ, ◌+◌, ◌*◌, ◌/◌, ◌<◌, ◌≤◌, ◌⊎◌, List, [], ◌∷◌, length, get_or, refl, ◌∙◌, inl, inr, ⊎_elim, add-zero, arith, get_or-set_other, get_or-set_same}
use Rattle.std.proofs.lemmas.Bool.{cases_lt}
use Rattle.leaves.specs.declared.leaf.Element.{Element}
use Rattle.leaves.specs.Layout.{leaf_at, slot_at, element, next_of, count_of, form_of}
use Rattle.writes.specs.Writes.{Store, applied, finished, Spares, Proper, row_stores, single}
use Rattle.writes.specs.Laws.{change}
use Rattle.writes.proofs.Mixes.{length_applied}
use Rattle.writes.proofs.Cuts.{length_finished, finished_spares, finished_last}
use Rattle.writes.proofs.Places.{row_spared, row_spared_after, row_lined, row_made}
use Rattle.books.proofs.FootprintLaws.{SameLeaf}
use Rattle.appends.specs.Append.{signed, words_of, slot_lines, raised, append_lines}

pub made_of : (w x : ℕ × ℕ) (a b c d : ℕ) → a ≡ x.0 → b ≡ w.0 → c ≡ w.1 → d ≡ x.1 → ◌≡◌ {A = Element} (record { sign = a; key = (b, c); reading = d }) (signed w x)
made_of w x a b c d p q r s = rw (p, q, r, s)

-- outside the slots from s to e of leaf k
abbrev pub Clear : ℕ → ℕ → ℕ → ℕ → Type 0
Clear k s e i = (i < slot_at k s) ⊎ (slot_at k e ≤ i)

module _ (k : ℕ) (w : ℕ × ℕ) where
  pub slots_spare : (s : ℕ) (xs : List (ℕ × ℕ)) (i : ℕ) → Clear k s (s + length xs) i → Spares i (slot_lines k s w xs)
  slots_spare s [] i h = tt
  slots_spare s (x ∷ xs) i h =
      let l : length (words_of (signed w x)) ≡ 4 = refl in
      ⊎_elim
      (λ b. (row_spared i (slot_at k s) (words_of (signed w x)) b, slots_spare (s + 1) xs i (inl (omega arith))))
      (λ a. (row_spared_after i (slot_at k s) (words_of (signed w x)) (omega arith), slots_spare (s + 1) xs i (inr (omega arith))))
      h

  -- the elements stand in the slots from s on
  abbrev pub Stand : List ℕ → ℕ → List (ℕ × ℕ) → Type 0
  Stand m s [] = Unit {0}
  Stand m s (x ∷ xs) = (element m k s ≡ signed w x) × Stand m (s + 1) xs

  pub element_same : (a b : List ℕ) (s : ℕ) → ((i : ℕ) → slot_at k s ≤ i → i < slot_at k (s + 1) → get_or a i 0 ≡ get_or b i 0) → element a k s ≡ element b k s
  element_same a b s h =
      let x = h (slot_at k s) (omega arith) (omega arith) in
      let y = h (slot_at k s + 1) (omega arith) (omega arith) in
      let z = h (slot_at k s + 2) (omega arith) (omega arith) in
      let u = h (slot_at k s + 3) (omega arith) (omega arith) in cc

  pub stand_same : (a b : List ℕ) (s : ℕ) (xs : List (ℕ × ℕ)) → ((i : ℕ) → slot_at k s ≤ i → get_or a i 0 ≡ get_or b i 0) → Stand b s xs → Stand a s xs
  stand_same a b s [] h n = tt
  stand_same a b s (x ∷ xs) h n = (element_same a b s (λ i l _. h i l) ∙ n.0, stand_same a b (s + 1) xs (λ i l. h i (omega arith)) n.1)

  pub one_stands : (m : List ℕ) (s : ℕ) (x : ℕ × ℕ) → slot_at k (s + 1) ≤ length m → element (applied m (row_stores (slot_at k s) (words_of (signed w x)))) k s ≡ signed w x
  one_stands m s x h =
      let at : (j : ℕ) → j < 4 → get_or (applied m (row_stores (slot_at k s) (words_of (signed w x)))) (slot_at k s + j) 0 ≡ get_or (words_of (signed w x)) j 0 = λ j l. row_made m (slot_at k s) (words_of (signed w x)) j (omega arith) l in
      let a = rw add-zero at (at 0 (omega arith)) in
      let b = at 1 (omega arith) in
      let c = at 2 (omega arith) in
      let d = at 3 (omega arith) in made_of w x _ _ _ _ a b c d

  pub slots_stand : (m : List ℕ) (s : ℕ) (xs : List (ℕ × ℕ)) → slot_at k (s + length xs) ≤ length m → Stand (finished m (slot_lines k s w xs)) s xs
  slots_stand m s [] h = tt
  slots_stand m s (x ∷ xs) h =
      let m' = applied m (row_stores (slot_at k s) (words_of (signed w x))) in
      let long : length m' ≡ length m = length_applied m (row_stores (slot_at k s) (words_of (signed w x))) in (
        element_same (finished m' (slot_lines k (s + 1) w xs)) m' s (λ i a b. finished_spares m' (slot_lines k (s + 1) w xs) i (slots_spare (s + 1) xs i (inl b))) ∙ one_stands m s x (omega arith),
        slots_stand m' (s + 1) xs (omega arith),
      )

  pub slots_proper : (size s : ℕ) (xs : List (ℕ × ℕ)) (c : Store) → slot_at k (s + length xs) ≤ size → Proper size (single c ∷ []) → Proper size (change (slot_lines k s w xs) c)
  slots_proper size s [] c h last = last
  slots_proper size s (x ∷ xs) c h last =
      let l : length (words_of (signed w x)) ≡ 4 = refl in
      (omega arith, row_lined size (slot_at k s / 8) (slot_at k s) (words_of (signed w x)) (omega arith) (omega arith) (omega arith), slots_proper size (s + 1) xs c (omega arith) last)

abbrev pub appended : List ℕ → ℕ → ℕ × ℕ → List (ℕ × ℕ) → List ℕ
appended m k w xs = finished m (append_lines k (count_of m k) w xs)

-- The words m after an append to leaf k, which lies inside them.
module _ (m : List ℕ) (k : ℕ) (w : ℕ × ℕ) (xs : List (ℕ × ℕ)) (first : 1 ≤ k) (inside : 8 + 72 * k ≤ length m) (room : count_of m k + length xs ≤ 16) where
  pub new_length : length (appended m k w xs) ≡ length m
  new_length = length_finished m (append_lines k (count_of m k) w xs)

  -- the commit's own word and the new slots aside, every word stays
  pub new_else : (i : ℕ) → Clear k (count_of m k) (count_of m k + length xs) i → (i ≡ leaf_at k + 1 → ⊥) → get_or (appended m k w xs) i 0 ≡ get_or m i 0
  new_else i clear other =
      rw (finished_last m (slot_lines k (count_of m k) w xs) (raised k (count_of m k) xs))
      (get_or-set_other (finished m (slot_lines k (count_of m k) w xs)) (leaf_at k + 1) i (count_of m k + length xs) 0 other
      ∙ finished_spares m (slot_lines k (count_of m k) w xs) i (slots_spare k w (count_of m k) xs i clear))

  pub new_count : count_of (appended m k w xs) k ≡ count_of m k + length xs
  new_count =
      let long = length_finished m (slot_lines k (count_of m k) w xs) in
      rw (finished_last m (slot_lines k (count_of m k) w xs) (raised k (count_of m k) xs)) (get_or-set_same (finished m (slot_lines k (count_of m k) w xs)) (leaf_at k + 1) (count_of m k + length xs) 0 (omega arith))

  pub new_stand : Stand k w (appended m k w xs) (count_of m k) xs
  new_stand =
      let b = finished m (slot_lines k (count_of m k) w xs) in
      stand_same k w (appended m k w xs) b (count_of m k) xs
      (λ i l. rw (finished_last m (slot_lines k (count_of m k) w xs) (raised k (count_of m k) xs)) (get_or-set_other b (leaf_at k + 1) i (count_of m k + length xs) 0 (λ e. omega arith)))
      (slots_stand k w m (count_of m k) xs (omega arith))

  -- the older elements of the leaf, its next and its form
  pub new_older : (s : ℕ) → s < count_of m k → element (appended m k w xs) k s ≡ element m k s
  new_older s h = element_same k w (appended m k w xs) m s (λ i a b. new_else i (inl (omega arith)) (λ e. omega arith))

  pub new_next : next_of (appended m k w xs) k ≡ next_of m k
  new_next = new_else (leaf_at k) (inl (omega arith)) (λ e. omega arith)

  pub new_form : form_of (appended m k w xs) k ≡ form_of m k
  new_form = new_else (leaf_at k + 2) (inl (omega arith)) (λ e. omega arith)

  -- another leaf
  pub new_other : (j : ℕ) → 1 ≤ j → (k ≡ j → ⊥) → count_of m j ≤ 16 → SameLeaf (appended m k w xs) m j
  new_other j some other few =
      let far : (i : ℕ) → leaf_at j ≤ i → i < leaf_at j + 72 → get_or (appended m k w xs) i 0 ≡ get_or m i 0 = λ i a b.
      ⊎_elim (λ less. new_else i (inr (omega arith)) (λ e. omega arith)) (λ more. new_else i (inl (omega arith)) (λ e. omega arith)) (cases_lt k j) in
      record {
        next = far (leaf_at j) (omega arith) (omega arith);
        count = far (leaf_at j + 1) (omega arith) (omega arith);
        form = far (leaf_at j + 2) (omega arith) (omega arith);
        each = λ s l. element_same j w (appended m k w xs) m s (λ i a b. far i (omega arith) (omega arith));
      }
