-- A run of pairs after a change, and the place of a key in it.
use Rattle.std.proofs.Common.{◌≡◌, ℕ, zero, suc, ◌+◌, ◌<◌, ◌≤◌, true, false, not, ltb, List, [], ◌∷◌, ◌++◌, length, take, drop, get_or, Some, None, Ok, Option, sym, refl, ap, ◌∙◌, subst, ⊎_elim, arith}
use Rattle.std.proofs.Math.ListN.{set}
use Rattle.std.proofs.lemmas.Bool.{cases_Bool, cases_lt, cond-true, cond-false, both_ways, false≢true}
use Rattle.std.proofs.lemmas.List.Sums.{prefix_len_passes}
use Rattle.std.proofs.lemmas.Bool.Decides.{nat_tests}
use Rattle.std.proofs.lemmas.Option.{same_Some}
use Rattle.std.specs.List.{position, position_or_len, prefix_len, remove}
use Rattle.fixed_vec.proofs.Edits.{remove_none}
use Rattle.std.specs.Option.{ok_or}
use Rattle.refusal.specs.declared.Refusal.TheVariants.{NotAKey}
use Rattle.keys.specs.Kind.{Formed, Kind, unpacked}
use Rattle.keys.specs.InWords.{WordKind, WordOrdered}
use Rattle.leaves.specs.declared.leaf.Pair.{Pair}
use Rattle.leaves.specs.declared.leaf.Element.{Element}
use Rattle.leaves.specs.Ascent.{Ascending, Each}
use Rattle.leaves.specs.Pairs.{equal, insert, delete, applied, folded}
use Rattle.leaves.specs.Steps.{own_at}
use Rattle.leaves.proofs.AscentLaws.{each_at, each_map}
use Rattle.leaves.proofs.PairLaws.{equal_self, equal_true}

pub length_delete : (w : ℕ × ℕ) (ps : List Pair) → length (delete w ps) ≤ length ps
length_delete w [] = omega arith
length_delete w (p ∷ ps) = let ih = length_delete w ps in grind arith

pub length_insert : (o : WordKind) (q : Pair) (ps : List Pair) → length (insert o q ps) ≤ length ps + 1
length_insert o q [] = omega arith
length_insert o q (p ∷ ps) = let ih = length_insert o q ps in grind arith

pub length_applied : (o : WordKind) (e : Element) (ps : List Pair) → length (applied o e ps) ≤ length ps + 1
length_applied o e ps = let i = length_insert o (record { key = e.key; reading = e.reading }) ps in let d = length_delete e.key ps in grind arith

pub length_folded : (o : WordKind) (ps : List Pair) (es : List Element) → length (folded o ps es) ≤ length ps + length es
length_folded o ps [] = omega arith
length_folded o ps (e ∷ es) = let a = length_applied o e ps in let ih = length_folded o (applied o e ps) es in omega arith

pub some_none : {A B : Type 0} {x : A} → ◌≡◌ {A = Option A} (Some x) None → B
some_none e = let z : ◌≡◌ {A = ℕ} 0 1 = cc in absurd (omega arith)

-- where the key's pair stands, if there is one
abbrev pub place_in : ℕ × ℕ → List Pair → Option ℕ
place_in w ps = position (λ p. equal p.key w) ps

-- a list without the key's pair stays as it is
delete_other : (w : ℕ × ℕ) (ps : List Pair) → Each (λ k. equal k w ≡ false) ps → delete w ps ≡ ps
delete_other w [] h = refl
delete_other w (p ∷ ps) h = cond-true (not (equal p.key w)) _ _ (ap not h.0) ∙ ap (λ l. p ∷ l) (delete_other w ps h.1)

-- how many pairs stand before the place of a key
abbrev pub smaller : WordKind → ℕ × ℕ → List Pair → ℕ
smaller o w ps = prefix_len (λ p. o.before p.key w) ps

module _ (o : WordKind) (ordered : WordOrdered o) where
  -- A pair of the same key gives way to the new one.
  pub insert_own : (q : Pair) (ps : List Pair) (n : ℕ) → n ≡ smaller o q.key ps → own_at q.key n ps ≡ true → insert o q ps ≡ set ps n q
  insert_own q [] n is own = absurd (false≢true own)
  insert_own q (p ∷ ps) n is own =
      ⊎_elim
      (λ lt.
      let e : n ≡ suc (smaller o q.key ps) = omega (arith, is ∙ cond-true (o.before p.key q.key) (1 + smaller o q.key ps) 0 lt) in
      let ih = insert_own q ps (smaller o q.key ps) refl (subst (λ k. own_at q.key k (p ∷ ps) ≡ true) e own) in
      cond-true (o.before p.key q.key) _ _ lt ∙ ap (λ l. p ∷ l) ih ∙ ap (λ k. set (p ∷ ps) k q) (sym e))
      (λ ge.
      let e : n ≡ 0 = is ∙ cond-false (o.before p.key q.key) (1 + smaller o q.key ps) 0 ge in
      let same = equal_true p.key q.key (subst (λ k. own_at q.key k (p ∷ ps) ≡ true) e own) in
      let none : o.before q.key p.key ≡ false = ap (o.before q.key) same ∙ ordered.irreflexive q.key in
      cond-false (o.before p.key q.key) _ _ ge ∙ ap (λ l. q ∷ l) (cond-false (o.before q.key p.key) _ _ none) ∙ ap (λ k. set (p ∷ ps) k q) (sym e))
      (cases_Bool (o.before p.key q.key))

  -- Else the new pair goes between the smaller and the larger ones.
  pub insert_new : (q : Pair) (ps : List Pair) (n : ℕ) → n ≡ smaller o q.key ps → own_at q.key n ps ≡ false → insert o q ps ≡ take n ps ++ q ∷ drop n ps
  insert_new q [] n is own = ap (λ k. take k [] ++ q ∷ drop k []) (sym is)
  insert_new q (p ∷ ps) n is own =
      ⊎_elim
      (λ lt.
      let e : n ≡ suc (smaller o q.key ps) = omega (arith, is ∙ cond-true (o.before p.key q.key) (1 + smaller o q.key ps) 0 lt) in
      let ih = insert_new q ps (smaller o q.key ps) refl (subst (λ k. own_at q.key k (p ∷ ps) ≡ false) e own) in
      cond-true (o.before p.key q.key) _ _ lt ∙ ap (λ l. p ∷ l) ih ∙ ap (λ k. take k (p ∷ ps) ++ q ∷ drop k (p ∷ ps)) (sym e))
      (λ ge.
      let e : n ≡ 0 = is ∙ cond-false (o.before p.key q.key) (1 + smaller o q.key ps) 0 ge in
      let differ : equal p.key q.key ≡ false = subst (λ k. own_at q.key k (p ∷ ps) ≡ false) e own in
      let later : o.before q.key p.key ≡ true =
      ⊎_elim (λ t. t) (λ f. absurd (both_ways _ differ (rw (ordered.connected p.key q.key ge f) (equal_self q.key)))) (cases_Bool (o.before q.key p.key)) in
      cond-false (o.before p.key q.key) _ _ ge ∙ ap (λ l. q ∷ l) (cond-true (o.before q.key p.key) _ _ later) ∙ ap (λ k. take k (p ∷ ps) ++ q ∷ drop k (p ∷ ps)) (sym e))
      (cases_Bool (o.before p.key q.key))

  -- A pair before the place, and all before that pair, stand before the place.
  pub place_past : (w : ℕ × ℕ) (ps : List Pair) (i : ℕ) (d : Pair) → Ascending o ps → i < length ps → o.before (get_or ps i d).key w ≡ true → i < smaller o w ps
  place_past w [] i d up lt before = absurd (omega arith)
  place_past w (p ∷ ps) zero d up lt before = let e = cond-true (o.before p.key w) (1 + smaller o w ps) 0 before in omega arith
  place_past w (p ∷ ps) (suc i) d up lt before =
      let within : i < length ps = omega arith in
      let first = ordered.transitive p.key (get_or ps i d).key w (each_at (λ k. o.before p.key k ≡ true) ps i d up.0 within) before in
      let ih = place_past w ps i d up.1 within before in
      let e = cond-true (o.before p.key w) (1 + smaller o w ps) 0 first in
      omega arith

-- A pair that is not before the place stands behind it.
pub place_within : (o : WordKind) (w : ℕ × ℕ) (ps : List Pair) (i : ℕ) (d : Pair) → o.before (get_or ps i d).key w ≡ false → smaller o w ps ≤ i
place_within o w ps i d not_before =
    ⊎_elim (λ lt. absurd (both_ways _ not_before (prefix_len_passes (λ (p : Pair). o.before p.key w) ps i d lt))) (λ le. le) (cases_lt i (smaller o w ps))

module _ (o : WordKind) (ordered : WordOrdered o) (w : ℕ × ℕ) where
  -- The pair of a key is taken out where the key is found first.
  delete_place : (ps : List Pair) → Ascending o ps → delete w ps ≡ remove ps (position_or_len (λ p. equal p.key w) ps)
  delete_place [] up = refl
  delete_place (p ∷ ps) up =
      ⊎_elim
      (λ own.
      let is = equal_true p.key w own in
      let others = each_map o (λ k. o.before p.key k ≡ true) (λ k. equal k w ≡ false) (λ k lt.
      ⊎_elim (λ t. absurd (both_ways _ (ordered.irreflexive w) (rw (is, equal_true k w t) at lt))) (λ f. f) (cases_Bool (equal k w))) ps up.0 in
      cond-false (not (equal p.key w)) _ _ (ap not own) ∙ delete_other w ps others ∙ ap (remove (p ∷ ps)) (sym (cond-false (not (equal p.key w)) (1 + position_or_len (λ p. equal p.key w) ps) 0 (ap not own))))
      (λ other.
      let next : suc (position_or_len (λ p. equal p.key w) ps) ≡ position_or_len (λ p. equal p.key w) (p ∷ ps) =
      omega (arith, cond-true (not (equal p.key w)) (1 + position_or_len (λ p. equal p.key w) ps) 0 (ap not other)) in
      cond-true (not (equal p.key w)) _ _ (ap not other) ∙ ap (λ l. p ∷ l) (delete_place ps up.1) ∙ ap (remove (p ∷ ps)) next) (cases_Bool (equal p.key w))

  pub delete_at : (ps : List Pair) (at : ℕ) → Ascending o ps → Some at ≡ place_in w ps → delete w ps ≡ remove ps at
  delete_at ps at up found =
      delete_place ps up
      ∙ ⊎_elim
      (λ lt. let e : Some at ≡ Some (position_or_len (λ p. equal p.key w) ps) = found ∙ cond-true (ltb (position_or_len (λ p. equal p.key w) ps) (length ps)) _ None lt in ap (remove ps) (sym (same_Some at _ e)))
      (λ ge. some_none (found ∙ cond-false (ltb (position_or_len (λ p. equal p.key w) ps) (length ps)) _ None ge)) (cases_Bool (ltb (position_or_len (λ p. equal p.key w) ps) (length ps)))

  pub delete_none : (ps : List Pair) → Ascending o ps → None ≡ place_in w ps → delete w ps ≡ ps
  delete_none ps up lost =
      delete_place ps up
      ∙ ⊎_elim (λ lt. some_none (sym (lost ∙ cond-true (ltb (position_or_len (λ p. equal p.key w) ps) (length ps)) _ None lt)))
      (λ ge. sym (remove_none ps (position_or_len (λ p. equal p.key w) ps) (grind (arith, nat_tests)))) (cases_Bool (ltb (position_or_len (λ p. equal p.key w) ps) (length ps)))

-- Words that are read as a key are the key's.
pub read_as : {K : Type 0} (k : Kind K) → Formed k → (w : ℕ × ℕ) (key : K) → Ok key ≡ unpacked k w → k.form key ≡ w
read_as {K} k formed w key e = by (k.read w) refl e where
  by : (r : Option K) → k.read w ≡ r → Ok key ≡ ok_or r NotAKey → k.form key ≡ w
  by (Some a) is h = let same : key ≡ a = cc in ap k.form same ∙ formed.only w a is
  by None is h = let z : ◌≡◌ {A = ℕ} 0 1 = cc in absurd (omega arith)
