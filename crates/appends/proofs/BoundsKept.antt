-- An append to the leaf where the bounds put its key keeps the bounds.
use Rattle.std.proofs.Common.{◌≡◌, ℕ, suc, ◌<◌, true, false, List, [], ◌∷◌, ◌++◌, length, sym, ◌∙◌, subst, ⊎_elim, arith}
use Rattle.std.proofs.lemmas.Bool.{cases_Bool, cases_lt, cond-true}
use Rattle.keys.specs.InWords.{WordKind, WordOrdered}
use Rattle.leaves.specs.declared.leaf.Element.{Element}
use Rattle.leaves.specs.Layout.{element, count_of}
use Rattle.books.specs.Bounds.{Keys, Bounded, locate}
use Rattle.books.proofs.BoundLaws.{locate_more}
use Rattle.books.proofs.FootprintLaws.{KeptLeaves, all_kept_of}
use Rattle.appends.specs.Append.{AppendBounds}
use Rattle.appends.proofs.AppendWords.{appended}
use Rattle.appends.proofs.AppendBook.{Grown, key_stands}
use Rattle.appends.proofs.AppendLaws.{grown, pre_same, post_same}

module _ (o : WordKind) (ordered : WordOrdered o) where
  -- leaves that keep their elements keep their bounds
  pub keys_kept : (a b : List ℕ) (P : ℕ × ℕ → Type 0) (ks : List ℕ) → KeptLeaves a b ks → Keys P b ks → Keys P a ks
  keys_kept a b P [] kept h = tt
  keys_kept a b P (k ∷ ks) kept h = (
    λ s l. let l' : s < count_of b k = rw kept.0.count at l in subst (λ (e : Element). P e.key) (sym (kept.0.each s l')) (h.0 s l'),
    keys_kept a b P ks kept.1 h.1,
  )

  pub bounded_kept : (a b ks : List ℕ) (bs : List (ℕ × ℕ)) → KeptLeaves a b ks → Bounded o b ks bs → Bounded o a ks bs
  bounded_kept a b [] bs kept h = h
  bounded_kept a b (k ∷ []) [] kept h = tt
  bounded_kept a b (k ∷ []) (c ∷ bs) kept h = h
  bounded_kept a b (k ∷ l ∷ ks) [] kept h = h
  bounded_kept a b (k ∷ l ∷ ks) (c ∷ bs) kept h = (
    (keys_kept a b (λ x. o.before c x ≡ false) (k ∷ []) (kept.0, tt) (h.0, tt)).0,
    keys_kept a b (λ x. o.before c x ≡ true) (l ∷ ks) kept.1 h.1,
    bounded_kept a b (l ∷ ks) bs kept.1 h.2,
  )

  module _ (a b : List ℕ) (k : ℕ) (w : ℕ × ℕ) (xs : List (ℕ × ℕ)) (grown_k : Grown a b k w xs) where
    -- the keys of a grown leaf are the old ones and w
    grown_keys : (P : ℕ × ℕ → Type 0) → P w → ((s : ℕ) → s < count_of b k → P (element b k s).key) → (s : ℕ) → s < count_of a k → P (element a k s).key
    grown_keys P at h s l =
        let c = grown_k.count in
        ⊎_elim (λ old. subst (λ (e : Element). P e.key) (sym (grown_k.older s old)) (h s old))
        (λ new. subst P (sym (key_stands o a k w (count_of b k) xs grown_k.stand s new (omega arith))) at) (cases_lt s (count_of b k))

    keys_grown : (P : ℕ × ℕ → Type 0) (pre post : List ℕ) → KeptLeaves a b pre → KeptLeaves a b post → P w → Keys P b (pre ++ k ∷ post) → Keys P a (pre ++ k ∷ post)
    keys_grown P [] post kept rest at h = (grown_keys P at h.0, keys_kept a b P post rest h.1)
    keys_grown P (j ∷ pre) post kept rest at h = ((keys_kept a b P (j ∷ []) (kept.0, tt) (h.0, tt)).0, keys_grown P pre post kept.1 rest at h.1)

    bounded_grown : (pre post : List ℕ) (bs : List (ℕ × ℕ)) → KeptLeaves a b pre → KeptLeaves a b post → length pre ≡ locate o w bs → Bounded o b (pre ++ k ∷ post) bs → Bounded o a (pre ++ k ∷ post) bs
    bounded_grown [] [] [] kept rest at h = tt
    bounded_grown [] [] (c ∷ bs) kept rest at h = h
    bounded_grown [] (l ∷ post) [] kept rest at h = h
    bounded_grown [] (l ∷ post) (c ∷ bs) kept rest at h =
        let here : o.before c w ≡ false = ⊎_elim (λ t. absurd (let e = at ∙ cond-true (o.before c w) (suc (locate o w bs)) 0 t in omega arith)) (λ f. f) (cases_Bool (o.before c w)) in
        (grown_keys (λ x. o.before c x ≡ false) here h.0, keys_kept a b (λ x. o.before c x ≡ true) (l ∷ post) rest h.1, bounded_kept a b (l ∷ post) bs rest h.2)
    bounded_grown (j ∷ []) post [] kept rest at h = h
    bounded_grown (j ∷ i ∷ pre) post [] kept rest at h = h
    bounded_grown (j ∷ []) post (c ∷ bs) kept rest at h =
        let (past, more) = locate_more o ordered w c bs 0 at in (
          (keys_kept a b (λ x. o.before c x ≡ false) (j ∷ []) (kept.0, tt) (h.0, tt)).0,
          keys_grown (λ x. o.before c x ≡ true) [] post tt rest past h.1,
          bounded_grown [] post bs tt rest more h.2,
        )
    bounded_grown (j ∷ i ∷ pre) post (c ∷ bs) kept rest at h =
        let (past, more) = locate_more o ordered w c bs (suc (length pre)) at in (
          (keys_kept a b (λ x. o.before c x ≡ false) (j ∷ []) (kept.0, tt) (h.0, tt)).0,
          keys_grown (λ x. o.before c x ≡ true) (i ∷ pre) post kept.1 rest past h.1,
          bounded_grown (i ∷ pre) post bs kept.1 rest more h.2,
        )

pub append_bounds_hold : AppendBounds
append_bounds_hold o ordered m pre k post w xs bs fits at h =
    let new = appended m k w xs in
    bounded_grown o ordered new m k w xs (grown o ordered m pre k post w xs fits) pre post bs
    (all_kept_of new m pre (pre_same o ordered m pre k post w xs fits)) (all_kept_of new m post (post_same o ordered m pre k post w xs fits)) at h
