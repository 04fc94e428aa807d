-- A layer answers and changes as the memory that it shows.
use Rattle.std.proofs.Common.{◌≡◌, ℕ, ◌*◌, ◌/◌, ◌<◌, ◌≤◌, Bool, true, false, cond, eqb, ltb, List, length, get_or, set, is_ok, Some, None, Err, Option, Result, sym, refl, ap, ◌∙◌, subst, inl, inr, arith}
use Rattle.std.proofs.lemmas.List.{length-set, get_or-set_same, get_or-set_other}
use Rattle.std.proofs.lemmas.Bool.{cases_eq, cond_both, eq-eqb, ne_eqb, lt-leb, le-leb, ltb-true, ltb-false}
use Rattle.refusal.specs.declared.Refusal.{Refusal}
use Rattle.refusal.specs.declared.Refusal.TheVariants.{Outside}
use Rattle.memory.specs.Meaning.{Words, Lawful, size_of, picked, read_answer, store_answer, stored, after_store, flush_answer, flushed, after_flush, odd_at, settle_answer, after_settle}
use Rattle.layers.specs.Layers.{Numbering, Sound, View, at_place, layered, line_under, place, seen, shown, word_below}
use Rattle.memory.proofs.Words.{length_tabled, tabled_at, is_tabled, picked_by, words_by}

-- What a layer answers by the word or the line found below: what is answered there, or that it is outside.
abbrev pub found : {A : Type 0} → Option ℕ → (ℕ → Result A Refusal) → Result A Refusal
found (Some j) answer = answer j
found None answer = Err Outside

-- No call changes the size.
size_after_store : (m : Words) (i w : ℕ) → size_of (after_store m i w) ≡ size_of m
size_after_store m i w = cond_both (is_ok (store_answer m i)) _ _ (λ x. size_of x ≡ size_of m) (λ _. length-set m.live i w) (λ _. refl)

size_after_flush : (m : Words) (l : ℕ) → size_of (after_flush m l) ≡ size_of m
size_after_flush m l = cond_both (is_ok (flush_answer m l)) _ _ (λ x. size_of x ≡ size_of m) (λ _. refl) (λ _. refl)

size_after_settle : (m : Words) (choice : List ℕ) (steps : ℕ) → size_of (after_settle m choice steps) ≡ size_of m
size_after_settle m choice steps = cond_both (is_ok (settle_answer m choice)) _ _ (λ x. size_of x ≡ size_of m) (λ _. length_tabled (size_of m) _) (λ _. refl)

module _ (line : ℕ → ℕ) (n : ℕ) where
  shown_at : (ws : List ℕ) (k : ℕ) → k < n → get_or (shown line n ws) k 0 ≡ get_or ws (place line k) 0
  shown_at ws k h = tabled_at n _ k h

  shown_set : (ws : List ℕ) (i w : ℕ) → View line n (length ws) → i < n → shown line n (set ws (place line i) w) ≡ set (shown line n ws) i w
  shown_set ws i w v h = sym (is_tabled (set (shown line n ws) i w) n _ (length-set _ i w ∙ length_tabled n _) each)
    where
      each : (k : ℕ) → k < n → get_or (set (shown line n ws) i w) k 0 ≡ get_or (set ws (place line i) w) (place line k) 0
      each k lt = elim (cases_eq k i) [
        | inl e ↦
            let in-layer : i < length (shown line n ws) = omega (arith, length_tabled n (λ i. get_or ws (place line i) 0)) in
            let in-below : place line i < length ws = v.within i h in
            simp (e, get_or-set_same)
        | inr e ↦
            let other : place line k ≡ place line i → ⊥ = λ s. e (omega (arith, v.apart (k / 8) (i / 8) (omega arith) (omega arith) (omega arith))) in
            simp get_or-set_other (shown_at ws k lt)
      ]

  pub shown_picked : (f : ℕ → Bool) (a b : List ℕ) → View line n (length a) → shown line n (picked f a b) ≡ picked (λ i. f (place line i)) (shown line n a) (shown line n b)
  shown_picked f a b v =
      is_tabled (shown line n (picked f a b)) (length (shown line n a)) _ (length_tabled n _ ∙ sym (length_tabled n _))
      (λ k h.
      let lt : k < n = omega (arith, length_tabled n (λ i. get_or a (place line i) 0)) in
      let below : place line k < length a = v.within k lt in
      simp (shown_at, tabled_at))

  -- Of the words below, those that the flush of a line takes are the line's own.
  same_line : (l k size : ℕ) → View line n size → 8 * l < n → k < n → eqb (place line k / 8) (line l) ≡ eqb (k / 8) l
  same_line l k size v h lt = elim (cases_eq (k / 8) l) [
    | inl e ↦ rw (eq-eqb (k / 8) l e, eq-eqb (place line k / 8) (line l) (omega (arith, ap line e)))
    | inr e ↦ rw (ne_eqb (k / 8) l e, ne_eqb (place line k / 8) (line l) (λ s. e (v.apart (k / 8) l (omega arith) h (omega arith))))
  ]

  size_seen : (m : Words) → size_of (seen line n m) ≡ n
  size_seen m = length_tabled n _

  -- Outside the layer.
  read_outside : (m : Words) (i : ℕ) → n ≤ i → Err Outside ≡ read_answer (seen line n m) i
  read_outside m i h = rw (size_seen m, le-leb n i h)

  store_outside : (m : Words) (i : ℕ) → n ≤ i → Err Outside ≡ store_answer (seen line n m) i
  store_outside m i h = rw (size_seen m, le-leb n i h)

  flush_outside : (m : Words) (l : ℕ) → n ≤ 8 * l → Err Outside ≡ flush_answer (seen line n m) l
  flush_outside m l h = rw (size_seen m, le-leb n (8 * l) h)

  either : (b : Bool) (x y : Words) → seen line n (cond b x y) ≡ cond b (seen line n x) (seen line n y)
  either true x y = refl
  either false x y = refl

  module _ (m : Words) (v : View line n (size_of m)) (laws : Lawful m) where
    view_firm : View line n (length m.firm)
    view_firm = rw laws.level at v

    start : (l : ℕ) → 8 * l < n → 8 * line l < size_of m
    start l h = let e : 8 * l / 8 ≡ l = omega arith in omega (arith, v.within (8 * l) h, ap line e)

    read_within : (i : ℕ) → i < n → read_answer m (place line i) ≡ read_answer (seen line n m) i
    read_within i h =
        let below : place line i < size_of m = v.within i h in
        rw (size_seen m, lt-leb n i h, lt-leb (size_of m) (place line i) below, shown_at m.live i h)

    store_within : (i : ℕ) → i < n → store_answer m (place line i) ≡ store_answer (seen line n m) i
    store_within i h =
        let below : place line i < size_of m = v.within i h in
        rw (size_seen m, lt-leb n i h, lt-leb (size_of m) (place line i) below, shown_at m.live i h, shown_at m.firm i h)

    stored_within : (i w : ℕ) → i < n → seen line n (stored m (place line i) w) ≡ stored (seen line n m) i w
    stored_within i w h = words_by m.through _ _ (shown_set m.live i w v h) (firm_stored m.through)
      where
        firm_stored : (t : Bool) → shown line n (cond t (set m.firm (place line i) w) m.firm) ≡ cond t (set (shown line n m.firm) i w) (shown line n m.firm)
        firm_stored true = shown_set m.firm i w view_firm h
        firm_stored false = refl

    after_store_within : (i w : ℕ) → i < n → seen line n (after_store m (place line i) w) ≡ after_store (seen line n m) i w
    after_store_within i w h =
        either (is_ok (store_answer m (place line i))) (stored m (place line i) w) m ∙ rw (store_within i h, stored_within i w h)

    flush_within : (l : ℕ) → 8 * l < n → flush_answer m (line l) ≡ flush_answer (seen line n m) l
    flush_within l h =
        let below : 8 * line l < size_of m = start l h in
        rw (size_seen m, lt-leb n (8 * l) h, lt-leb (size_of m) (8 * line l) below)

    flushed_within : (l : ℕ) → 8 * l < n → seen line n (flushed m (line l)) ≡ flushed (seen line n m) l
    flushed_within l h = words_by m.through _ _ refl
        (shown_picked (λ j. eqb (j / 8) (line l)) m.live m.firm v
        ∙ picked_by (λ i. eqb (place line i / 8) (line l)) (λ i. eqb (i / 8) l) (shown line n m.live) (shown line n m.firm) (λ k lt. same_line l k (size_of m) v h (omega (arith, size_seen m))))

    after_flush_within : (l : ℕ) → 8 * l < n → seen line n (after_flush m (line l)) ≡ after_flush (seen line n m) l
    after_flush_within l h =
        either (is_ok (flush_answer m (line l))) (flushed m (line l)) m ∙ rw (flush_within l h, flushed_within l h)

    after_settle_within : (choice : List ℕ) (steps : ℕ) → seen line n (after_settle m choice steps) ≡ after_settle (seen line n m) choice steps
    after_settle_within choice steps =
        either (is_ok (settle_answer m choice)) _ m
        ∙ ap (λ x. cond (is_ok (settle_answer m choice)) x (seen line n m))
        (words_by m.through _ _ (shown_picked (λ i. odd_at choice (m.choosing.place i)) m.live m.firm v) (shown_picked (λ i. odd_at choice (m.choosing.place i)) m.live m.firm v))

pub size_layered : (num : Numbering) (m : Words) → size_of (layered num m) ≡ num.words (size_of m)
size_layered num m = size_seen (num.line (size_of m)) (num.words (size_of m)) m

-- What a layer answers and becomes, by what is found below: o.
module _ {num : Numbering} {m : Words} (sound : Sound num) (laws : Lawful m) where
  word_found : (P : Option ℕ → Type 0) (i : ℕ) → (i < num.words (size_of m) → P (Some (place (num.line (size_of m)) i)))
      → (num.words (size_of m) ≤ i → P None) → {o : Option ℕ} → o ≡ word_below num (size_of m) i → P o
  word_found P i inside outside e =
      subst P (sym e) (cond_both (ltb i (num.words (size_of m))) _ _ P (λ t. inside (ltb-true i _ t)) (λ f. outside (ltb-false i _ f)))

  line_found : (P : Option ℕ → Type 0) (l : ℕ) → (8 * l < num.words (size_of m) → P (Some (num.line (size_of m) l)))
      → (num.words (size_of m) ≤ 8 * l → P None) → {o : Option ℕ} → o ≡ line_under num (size_of m) l → P o
  line_found P l inside outside e =
      subst P (sym e) (cond_both (ltb (8 * l) (num.words (size_of m))) _ _ P (λ t. inside (ltb-true (8 * l) _ t)) (λ f. outside (ltb-false (8 * l) _ f)))

  pub read_found : (i : ℕ) {o : Option ℕ} → o ≡ word_below num (size_of m) i → found o (read_answer m) ≡ read_answer (layered num m) i
  read_found i e =
      word_found (λ o. found o (read_answer m) ≡ read_answer (layered num m) i) i
      (read_within (num.line (size_of m)) (num.words (size_of m)) m (sound.view (size_of m)) laws i)
      (read_outside (num.line (size_of m)) (num.words (size_of m)) m i)
      e

  pub store_found : (i : ℕ) {o : Option ℕ} → o ≡ word_below num (size_of m) i → found o (store_answer m) ≡ store_answer (layered num m) i
  store_found i e =
      word_found (λ o. found o (store_answer m) ≡ store_answer (layered num m) i) i
      (store_within (num.line (size_of m)) (num.words (size_of m)) m (sound.view (size_of m)) laws i)
      (store_outside (num.line (size_of m)) (num.words (size_of m)) m i)
      e

  pub flush_found : (l : ℕ) {o : Option ℕ} → o ≡ line_under num (size_of m) l → found o (flush_answer m) ≡ flush_answer (layered num m) l
  flush_found l e =
      line_found (λ o. found o (flush_answer m) ≡ flush_answer (layered num m) l) l
      (flush_within (num.line (size_of m)) (num.words (size_of m)) m (sound.view (size_of m)) laws l)
      (flush_outside (num.line (size_of m)) (num.words (size_of m)) m l)
      e

  pub after_store_found : (i w : ℕ) {o : Option ℕ} → o ≡ word_below num (size_of m) i
      → layered num (at_place o (λ j. after_store m j w) m) ≡ after_store (layered num m) i w
  after_store_found i w e =
      word_found (λ o. layered num (at_place o (λ j. after_store m j w) m) ≡ after_store (layered num m) i w) i
      (λ h. rw (size_after_store m (place (num.line (size_of m)) i) w)
      (after_store_within (num.line (size_of m)) (num.words (size_of m)) m (sound.view (size_of m)) laws i w h))
      (λ h. rw (sym (store_outside (num.line (size_of m)) (num.words (size_of m)) m i h)) refl)
      e

  pub after_flush_found : (l : ℕ) {o : Option ℕ} → o ≡ line_under num (size_of m) l
      → layered num (at_place o (after_flush m) m) ≡ after_flush (layered num m) l
  after_flush_found l e =
      line_found (λ o. layered num (at_place o (after_flush m) m) ≡ after_flush (layered num m) l) l
      (λ h. rw (size_after_flush m (num.line (size_of m) l))
      (after_flush_within (num.line (size_of m)) (num.words (size_of m)) m (sound.view (size_of m)) laws l h))
      (λ h. rw (sym (flush_outside (num.line (size_of m)) (num.words (size_of m)) m l h)) refl)
      e

  pub after_settle_layered : {m' : Words} (choice : List ℕ) (steps : ℕ) → m' ≡ after_settle m choice steps
      → layered num m' ≡ after_settle (layered num m) choice steps
  after_settle_layered choice steps after =
      ap (layered num) after ∙ rw (size_after_settle m choice steps)
      (after_settle_within (num.line (size_of m)) (num.words (size_of m)) m (sound.view (size_of m)) laws choice steps)
