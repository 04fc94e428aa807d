-- A call that has something to do changes the book; a change to the reading held does not.
use Rattle.std.proofs.Common.{◌≡◌, ℕ, true, List, [], ◌∷◌, Some, sym, refl, ap, ◌∙◌, subst, ⊎_elim, arith}
use Rattle.std.proofs.lemmas.Bool.{cases_Bool, cond-true, cond-false}
use Rattle.std.proofs.lemmas.Option.{none-some, same_Some}
use Rattle.keys.specs.InWords.{WordKind, WordOrdered}
use Rattle.leaves.specs.declared.leaf.Pair.{Pair}
use Rattle.leaves.specs.Pairs.{equal, lookup, insert, delete}
use Rattle.leaves.specs.Ascent.{Each, Ascending}
use Rattle.leaves.proofs.PairLaws.{equal_true, equal_self, lookup_applied}
use Rattle.leaves.proofs.AscentLaws.{each_map}
use Rattle.books.proofs.QuestionLaws.{unlike_back, not_back}
use Rattle.appends.specs.Append.{signed}
use Rattle.appends.proofs.AppendBook.{delete_none}
use Rattle.plans.specs.declared.deed.Deed.TheVariants.{Put, Change, Remove}
use Rattle.plans.specs.Deeds.{CallsChange, NothingChanges}
use Rattle.plans.proofs.Lengths.{lookup_gone}

module _ (o : WordKind) (ordered : WordOrdered o) where
  lookup_put : (w : ℕ × ℕ) (r : ℕ) (ps : List Pair) → lookup w (insert o (record { key = w; reading = r }) ps) ≡ Some r
  lookup_put w r ps = lookup_applied o ordered w (signed w (1, r)) ps ∙ cond-true (equal w w) _ _ (equal_self w)

  insert_first : (q : Pair) (ps : List Pair) → Each (λ x. o.before q.key x ≡ true) ps → insert o q ps ≡ q ∷ ps
  insert_first q [] h = refl
  insert_first q (p ∷ ps) h = let back = not_back o ordered q.key p.key h.0 in grind arith

  held_in : (P : ℕ × ℕ → Type 0) (w : ℕ × ℕ) (r : ℕ) (ps : List Pair) → Each P ps → lookup w ps ≡ Some r → P w
  held_in P w r [] h e = absurd (none-some r e)
  held_in P w r (p ∷ ps) h e =
      ⊎_elim (λ t. subst P (equal_true p.key w t) h.0) (λ f. held_in P w r ps h.1 (sym (cond-false (equal p.key w) _ _ f) ∙ e)) (cases_Bool (equal p.key w))

  -- The reading held, taken out and put back.
  put_back : (w : ℕ × ℕ) (r : ℕ) (ps : List Pair) → Ascending o ps → lookup w ps ≡ Some r → insert o (record { key = w; reading = r }) (delete w ps) ≡ ps
  put_back w r [] up e = absurd (none-some r e)
  put_back w r (p ∷ ps) up e =
      let q : Pair = record { key = w; reading = r } in
      ⊎_elim
      (λ t.
      let is : p.key ≡ w = equal_true p.key w t in
      let reads : p.reading ≡ r = same_Some _ _ (sym (cond-true (equal p.key w) (Some p.reading) _ t) ∙ e) in
      let above : Each (λ x. o.before w x ≡ true) ps = each_map o _ _ (λ x lt. subst (λ y. o.before y x ≡ true) is lt) ps up.0 in
      let gone : delete w (p ∷ ps) ≡ ps = grind (arith, delete_none o ordered w ps (each_map o _ _ (λ x lt. unlike_back o ordered x w lt) ps above)) in
      let same : q ≡ p = ap (λ (k : ℕ × ℕ). record { key = k; reading = r }) (sym is) ∙ ap (λ (v : ℕ). record { key = p.key; reading = v }) (sym reads) in
      ap (insert o q) gone ∙ (insert_first q ps above ∙ ap (λ (x : Pair). x ∷ ps) same))
      (λ f.
      let more : lookup w ps ≡ Some r = sym (cond-false (equal p.key w) _ _ f) ∙ e in
      let lt : o.before p.key w ≡ true = held_in (λ x. o.before p.key x ≡ true) w r ps up.0 more in
      let kept : delete w (p ∷ ps) ≡ p ∷ delete w ps = grind arith in
      ap (insert o q) kept ∙ (cond-true (o.before p.key w) _ _ lt ∙ ap (λ (xs : List Pair). p ∷ xs) (put_back w r ps up.1 more)))
      (cases_Bool (equal p.key w))

pub calls_change_hold : CallsChange
calls_change_hold o ordered (Put w r) ps none same = none-some r (sym none ∙ (ap (lookup w) (sym same) ∙ lookup_put o ordered w r ps))
calls_change_hold o ordered (Change w r) ps (old, is, other) same = other (same_Some old r (sym is ∙ (ap (lookup w) (sym same) ∙ lookup_put o ordered w r (delete w ps))))
calls_change_hold o ordered (Remove w) ps (old, is) same = none-some old (sym (lookup_gone o ordered w ps) ∙ (ap (lookup w) same ∙ is))

pub nothing_changes_hold : NothingChanges
nothing_changes_hold o ordered (Put w r) ps up h = absurd h
nothing_changes_hold o ordered (Change w r) ps up h = put_back o ordered w r ps up h
nothing_changes_hold o ordered (Remove w) ps up h = absurd h
