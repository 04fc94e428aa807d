-- Walking by groups comes to where a search along the whole list comes.
use Rattle.std.proofs.Common.{◌≡◌, ℕ, zero, suc, ◌+◌, ◌*◌, ◌<◌, ◌≤◌, true, false, cond, List, [], ◌∷◌, ◌++◌, map, length, get_or, take, drop, refl, ap, ◌∙◌, ⊎_elim, append-nil, arith, length-append, length-drop, take-append-drop, length-take}
use Rattle.std.proofs.lemmas.Bool.{cond-true, cond-false, cond_both, cases_Bool}
use Rattle.keys.specs.InWords.{WordKind, WordOrdered}
use Rattle.index.specs.Search.{search, last, front, concat, offset, Above, Ascending, Full, First, FindsFirst, FindsOnly}
use Rattle.index.specs.Shape.{rows}
use Rattle.index.proofs.NodeLaws.{cons_search}

-- no group is empty, one by one
abbrev pub Filled : {X : Type 0} → List (List X) → Type 0
Filled [] = Unit {0}
Filled (g ∷ gs) = (0 < length g) × Filled gs

pub filled : {X : Type 0} (gs : List (List X)) → Full gs → Filled gs
filled [] f = tt
filled (g ∷ gs) f = (f 0 (omega arith), filled gs (λ k h. f (suc k) (omega arith)))

pub search_within : (o : WordKind) (key : ℕ × ℕ) (bs : List (ℕ × ℕ)) → 0 < length bs → search o key bs < length bs
search_within o key [] h = h
search_within o key (b ∷ []) h = h
search_within o key (b ∷ c ∷ bs) h =
    let more = search_within o key (c ∷ bs) (omega arith) in
    cond_both (o.before b key) _ _ (λ n. n < length (b ∷ c ∷ bs)) (λ t. omega arith) (λ f. omega arith)

module _ (o : WordKind) where
  above_parts : (b : ℕ × ℕ) (xs ys : List (ℕ × ℕ)) → Above o b (xs ++ ys) → Above o b xs × Above o b ys
  above_parts b [] ys h = (tt, h)
  above_parts b (x ∷ xs) ys h = let more = above_parts b xs ys h.1 in ((h.0, more.0), more.1)

  pub ascending_parts : (xs ys : List (ℕ × ℕ)) → Ascending o (xs ++ ys) → Ascending o xs × Ascending o ys
  ascending_parts [] ys h = (tt, h)
  ascending_parts (x ∷ xs) ys h =
      let more = ascending_parts xs ys h.1 in
      (((above_parts x xs ys h.0).0, more.0), more.1)

  above_last : (b : ℕ × ℕ) (xs : List (ℕ × ℕ)) → 0 < length xs → Above o b xs → o.before b (last xs) ≡ true
  above_last b [] h k = absurd (omega arith)
  above_last b (x ∷ []) h k = k.0
  above_last b (x ∷ y ∷ xs) h k = above_last b (y ∷ xs) (omega arith) k.1

  last_above : (xs ys : List (ℕ × ℕ)) → 0 < length xs → Ascending o (xs ++ ys) → Above o (last xs) ys
  last_above [] ys h k = absurd (omega arith)
  last_above (x ∷ []) ys h k = k.0
  last_above (x ∷ y ∷ xs) ys h k = last_above (y ∷ xs) ys (omega arith) k.1

  front_append : (xs ys : List (ℕ × ℕ)) → 0 < length ys → front (xs ++ ys) ≡ xs ++ front ys
  front_append [] ys h = refl
  front_append (x ∷ []) [] h = absurd (omega arith)
  front_append (x ∷ []) (y ∷ ys) h = refl
  front_append (x ∷ z ∷ xs) ys h = ap (λ bs. x ∷ bs) (front_append (z ∷ xs) ys h)

  concat_full : (rs : List (List (ℕ × ℕ))) → 0 < length rs → Filled rs → 0 < length (concat rs)
  concat_full [] h f = h
  concat_full (r ∷ rs) h f = let k = f.0 in simp length-append (omega arith)

  -- Of more than one group, the first whole and the others without the last bound.
  front_groups : (r s : List (ℕ × ℕ)) (rs : List (List (ℕ × ℕ))) → Filled (s ∷ rs) → front (concat (r ∷ s ∷ rs)) ≡ r ++ front (concat (s ∷ rs))
  front_groups r s rs f = front_append r (concat (s ∷ rs)) (concat_full (s ∷ rs) (omega arith) f)

  above_lasts : (b : ℕ × ℕ) (rs : List (List (ℕ × ℕ))) → Filled rs → Above o b (front (concat rs)) → Above o b (front (map last rs))
  above_lasts b [] f h = tt
  above_lasts b (r ∷ []) f h = tt
  above_lasts b (r ∷ s ∷ rs) f h =
      let p = above_parts b r (front (concat (s ∷ rs))) (rw (front_groups r s rs f.1) at h) in
      (above_last b r f.0 p.0, above_lasts b (s ∷ rs) f.1 p.1)

  pub lasts_ascend : (rs : List (List (ℕ × ℕ))) → Filled rs → Ascending o (front (concat rs)) → Ascending o (front (map last rs))
  lasts_ascend [] f h = tt
  lasts_ascend (r ∷ []) f h = tt
  lasts_ascend (r ∷ s ∷ rs) f h =
      let up = rw (front_groups r s rs f.1) at h in
      (above_lasts (last r) (s ∷ rs) f.1 (last_above r (front (concat (s ∷ rs))) f.0 up), lasts_ascend (s ∷ rs) f.1 (ascending_parts r (front (concat (s ∷ rs))) up).1)

  module _ (laws : WordOrdered o) (key : ℕ × ℕ) where
    all_before : (xs ys : List (ℕ × ℕ)) → 0 < length xs → 0 < length ys → Ascending o xs → o.before (last xs) key ≡ true → search o key (xs ++ ys) ≡ length xs + search o key ys
    all_before [] ys h k a t = absurd (omega arith)
    all_before (x ∷ []) ys h k a t = cons_search o key x ys k ∙ cond-true _ _ _ t ∙ omega arith
    all_before (x ∷ y ∷ xs) ys h k a t =
        let more = all_before (y ∷ xs) ys (omega arith) k a.1 t in
        let b = laws.transitive x (last (y ∷ xs)) key (above_last x (y ∷ xs) (omega arith) a.0) t in
        cond-true _ _ _ b ∙ omega (arith, more)

    not_before : (xs ys : List (ℕ × ℕ)) → 0 < length xs → o.before (last xs) key ≡ false → search o key (xs ++ ys) ≡ search o key xs
    not_before [] ys h f = absurd (omega arith)
    not_before (x ∷ []) [] h f = refl
    not_before (x ∷ []) (y ∷ ys) h f = cond-false _ _ _ f
    not_before (x ∷ y ∷ xs) ys h f = ap (λ n. cond (o.before x key) (suc n) 0) (not_before (y ∷ xs) ys (omega arith) f)

    -- First among the last bounds of the groups, then in the group.
    pub through : (rs : List (List (ℕ × ℕ))) → 0 < length rs → Filled rs → Ascending o (front (concat rs)) →
        search o key (concat rs) ≡ offset rs (search o key (map last rs)) + search o key (get_or rs (search o key (map last rs)) [])
    through [] h f a = absurd (omega arith)
    through (r ∷ []) h f a = rw append-nil (omega arith)
    through (r ∷ s ∷ rs) h f a =
        let p = ascending_parts r (front (concat (s ∷ rs))) (rw (front_groups r s rs f.1) at a) in
        let full = concat_full (s ∷ rs) (omega arith) f.1 in
        let more = through (s ∷ rs) (omega arith) f.1 p.1 in
        let n = search o key (map last (s ∷ rs)) in
        ⊎_elim
        (λ t. all_before r (concat (s ∷ rs)) f.0 full p.0 t ∙ rw (cond-true (o.before (last r) key) (suc n) 0 t) (omega (arith, more)))
        (λ e. not_before r (concat (s ∷ rs)) f.0 e ∙ rw (cond-false (o.before (last r) key) (suc n) 0 e) (omega arith))
        (cases_Bool (o.before (last r) key))

-- Rows of nine.
pub concat_rows : {X : Type 0} (k : ℕ) (xs : List X) → length xs ≤ 9 * k → concat (rows k xs) ≡ xs
concat_rows zero [] h = refl
concat_rows zero (x ∷ xs) h = absurd (omega arith)
concat_rows (suc k) [] h = refl
concat_rows (suc k) (x ∷ xs) h =
    let left : length (drop 9 (x ∷ xs)) ≤ 9 * k = simp length-drop (omega arith) in
    ap (λ ys. take 9 (x ∷ xs) ++ ys) (concat_rows k (drop 9 (x ∷ xs)) left) ∙ take-append-drop 9 (x ∷ xs)

pub rows_full : {X : Type 0} (k : ℕ) (xs : List X) → Filled (rows k xs)
rows_full zero xs = tt
rows_full (suc k) [] = tt
rows_full (suc k) (x ∷ xs) = (omega arith, rows_full k (drop 9 (x ∷ xs)))

no_rows : {X : Type 0} (k : ℕ) (xs : List X) → 0 < length (rows k xs) → 0 < length xs
no_rows zero xs h = absurd (omega arith)
no_rows (suc k) [] h = h
no_rows (suc k) (x ∷ xs) h = omega arith

pub offset_rows : {X : Type 0} (k : ℕ) (xs : List X) (q : ℕ) → q < length (rows k xs) → offset (rows k xs) q ≡ 9 * q
offset_rows zero xs q h = absurd (omega arith)
offset_rows (suc k) [] q h = absurd (omega arith)
offset_rows (suc k) (x ∷ xs) zero h = refl
offset_rows (suc k) (x ∷ xs) (suc q) h =
    let more = offset_rows k (drop 9 (x ∷ xs)) q (omega arith) in
    let some = no_rows k (drop 9 (x ∷ xs)) (omega arith) in
    let long : length (take 9 (x ∷ xs)) ≡ 9 = simp length-take (let s = simp length-drop at some in omega arith) in
    omega (arith, more, long)

-- One bound more in front.
first_more : (o : WordKind) (key b : ℕ × ℕ) (bs : List (ℕ × ℕ)) (p : ℕ) → o.before b key ≡ true → First o key bs p → First o key (b ∷ bs) (suc p)
first_more o key b bs p t f = (omega (arith, f.0), below, λ h. f.2 (omega arith))
  where
    below : (i : ℕ) → i < suc p → o.before (get_or (b ∷ bs) i (0, 0)) key ≡ true
    below zero h = t
    below (suc i) h = f.1 i (omega arith)

pub finds_first : FindsFirst
finds_first o key [] h = absurd (omega arith)
finds_first o key (b ∷ []) h = (omega arith, λ i k. absurd (omega arith), λ k. absurd (omega arith))
finds_first o key (b ∷ c ∷ bs) h =
    cond_both (o.before b key) _ _ (First o key (b ∷ c ∷ bs))
    (λ t. first_more o key b (c ∷ bs) _ t (finds_first o key (c ∷ bs) (omega arith)))
    (λ f. (omega arith, λ i k. absurd (omega arith), λ k. f))

first_less : (o : WordKind) (key b : ℕ × ℕ) (bs : List (ℕ × ℕ)) (p : ℕ) → First o key (b ∷ bs) (suc p) → First o key bs p
first_less o key b bs p f = (omega (arith, f.0), λ i h. f.1 (suc i) (omega arith), λ h. f.2 (omega arith))

pub finds_only : FindsOnly
finds_only o key [] p f = absurd (omega (arith, f.0))
finds_only o key (b ∷ []) p f = omega (arith, f.0)
finds_only o key (b ∷ c ∷ bs) zero f = cond-false _ _ _ (f.2 (omega arith))
finds_only o key (b ∷ c ∷ bs) (suc p) f =
    cond-true _ _ _ (f.1 0 (omega arith)) ∙ ap suc (finds_only o key (c ∷ bs) p (first_less o key b (c ∷ bs) p f))
