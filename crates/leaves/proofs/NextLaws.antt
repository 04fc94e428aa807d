-- The first pair after a key, told from the newest element on; pairs in order are known by what they tell of each key.
use Rattle.std.proofs.Common.{◌≡◌, ℕ, Bool, ◌+◌, ◌<◌, true, false, cond, not, ◌&&◌, ◌||◌, eqb, List, [], ◌∷◌, length, drop, get_or, Some, None, Option, sym, refl, ap, ◌∙◌, subst, inl, inr, ◌⊎◌, ⊎_elim}
use Rattle.std.proofs.lemmas.Bool.{cases_Bool, cond-true, cond-false, both_ways, or_parts}
use Rattle.std.proofs.lemmas.List.{drop_more}
use Rattle.std.proofs.lemmas.Option.{same_Some}
use Rattle.keys.specs.InWords.{WordKind, WordOrdered}
use Rattle.leaves.specs.declared.leaf.Element.{Element}
use Rattle.leaves.specs.declared.leaf.Pair.{Pair}
use Rattle.leaves.specs.Ascent.{Each, Ascending}
use Rattle.leaves.specs.Pairs.{equal, lookup, insert, delete, held, applied, first_after, folded}
use Rattle.leaves.specs.Steps.{nearer, pair_of, sooner, tells}
use Rattle.leaves.proofs.AscentLaws.{each_map, ascending_insert, ascending_delete, ascending_folded}
use Rattle.leaves.proofs.PairLaws.{equal_self, equal_true, lookup_applied, lookup_delete, lookup_insert}
use Rattle.leaves.proofs.RunLaws.{some_none}

and_none : {X : Type 0} (b : Bool) (x y : X) → cond (b && false) x y ≡ y
and_none true x y = refl
and_none false x y = refl

and_whole : {X : Type 0} (b : Bool) (x y : X) → cond (b && true) x y ≡ cond b x y
and_whole true x y = refl
and_whole false x y = refl

module _ (o : WordKind) (ordered : WordOrdered o) where
  -- no pair after a key is the key's
  lookup_gone : (k : ℕ × ℕ) (ps : List Pair) → Each (λ a. o.before k a ≡ true) ps → lookup k ps ≡ None
  lookup_gone k [] h = refl
  lookup_gone k (p ∷ ps) h =
      let differ : equal p.key k ≡ false =
      ⊎_elim (λ t. absurd (both_ways _ (ordered.irreflexive k) (subst (λ a. o.before k a ≡ true) (equal_true p.key k t) h.0))) (λ f. f) (cases_Bool (equal p.key k)) in
      cond-false (equal p.key k) _ _ differ ∙ lookup_gone k ps h.1

  lookup_own : (p : Pair) (ps : List Pair) → lookup p.key (p ∷ ps) ≡ Some p.reading
  lookup_own p ps = cond-true (equal p.key p.key) _ _ (equal_self p.key)

  -- a first pair that stands before all others is told of by no other list
  first_lost : {X : Type 0} (p : Pair) (ps qs : List Pair) → Each (λ a. o.before p.key a ≡ true) qs → ((k : ℕ × ℕ) → lookup k (p ∷ ps) ≡ lookup k qs) → X
  first_lost p ps qs h alike = some_none (sym (lookup_own p ps) ∙ alike p.key ∙ lookup_gone p.key qs h)

  -- Two lists in order that tell the same of every key are one.
  pub same_pairs : (ps qs : List Pair) → Ascending o ps → Ascending o qs → ((k : ℕ × ℕ) → lookup k ps ≡ lookup k qs) → ps ≡ qs
  same_pairs [] [] a b alike = refl
  same_pairs [] (q ∷ qs) a b alike = first_lost q qs [] tt (λ k. sym (alike k))
  same_pairs (p ∷ ps) [] a b alike = first_lost p ps [] tt alike
  same_pairs (p ∷ ps) (q ∷ qs) a b alike =
      ⊎_elim
      (λ lt. first_lost p ps (q ∷ qs) (lt, each_map o (λ k. o.before q.key k ≡ true) (λ k. o.before p.key k ≡ true) (λ k. ordered.transitive p.key q.key k lt) qs b.0) alike)
      (λ ge.
      ⊎_elim
      (λ gt.
      first_lost q qs (p ∷ ps) (gt, each_map o (λ k. o.before p.key k ≡ true) (λ k. o.before q.key k ≡ true) (λ k. ordered.transitive q.key p.key k gt) ps a.0) (λ k. sym (alike k)))
      (λ le.
      let same : p.key ≡ q.key = ordered.connected p.key q.key ge le in
      let told : p.reading ≡ q.reading = same_Some p.reading q.reading (sym (lookup_own p ps) ∙ alike p.key ∙ ap (λ k. lookup k (q ∷ qs)) same ∙ lookup_own q qs) in
      let rest : ps ≡ qs = same_pairs ps qs a.1 b.1 (λ k. tails p q ps qs a.0 b.0 same alike k (cases_Bool (equal p.key k))) in
      λ i. record { key = same i; reading = told i } ∷ rest i) (cases_Bool (o.before q.key p.key))) (cases_Bool (o.before p.key q.key)) where
        tails : (p q : Pair) (ps qs : List Pair) → Each (λ k. o.before p.key k ≡ true) ps → Each (λ k. o.before q.key k ≡ true) qs → p.key ≡ q.key
            → ((k : ℕ × ℕ) → lookup k (p ∷ ps) ≡ lookup k (q ∷ qs)) → (k : ℕ × ℕ) → (equal p.key k ≡ true) ⊎ (equal p.key k ≡ false) → lookup k ps ≡ lookup k qs
        tails p q ps qs a b same alike k (inl t) =
            let is = equal_true p.key k t in
            lookup_gone k ps (subst (λ x. Each (λ y. o.before x y ≡ true) ps) is a) ∙ sym (lookup_gone k qs (subst (λ x. Each (λ y. o.before x y ≡ true) qs) (sym same ∙ is) b))
        tails p q ps qs a b same alike k (inr f) =
            let g : equal q.key k ≡ false = ap (λ (x : ℕ × ℕ). equal x k) (sym same) ∙ f in
            sym (cond-false (equal p.key k) _ _ f) ∙ alike k ∙ cond-false (equal q.key k) _ _ g

  -- A pair that is put takes the place of the one that its key has.
  pub insert_deleted : (q : Pair) (ps : List Pair) → Ascending o ps → insert o q (delete q.key ps) ≡ insert o q ps
  insert_deleted q ps up =
      same_pairs (insert o q (delete q.key ps)) (insert o q ps) (ascending_insert o ordered q (delete q.key ps) (ascending_delete o ordered q.key ps up)) (ascending_insert o ordered q ps up) (λ k.
      lookup_insert o ordered k q (delete q.key ps) ∙ ap (cond (equal q.key k) (Some q.reading)) (lookup_delete o ordered k q.key ps)
      ∙ elim (equal q.key k) as (λ b. cond b (Some q.reading) (cond b None (lookup k ps)) ≡ cond b (Some q.reading) (lookup k ps)) [ true ↦ refl | false ↦ refl ]
      ∙ sym (lookup_insert o ordered k q ps))

  -- elements of other keys change nothing of what is told of a key
  untold : (k : ℕ × ℕ) (ps : List Pair) (es : List Element) → tells k es ≡ false → lookup k (folded o ps es) ≡ lookup k ps
  untold k ps [] none = refl
  untold k ps (e ∷ es) none =
      let parts = or_parts (equal e.key k) (tells k es) none in
      untold k (applied o e ps) es parts.1 ∙ lookup_applied o ordered k e ps ∙ cond-false (equal e.key k) _ _ parts.0

  -- what is told after some elements rests on what was told before only where none of them is the key's
  told_alike : (k : ℕ × ℕ) (ps qs : List Pair) (es : List Element) → (tells k es ≡ false → lookup k ps ≡ lookup k qs) → lookup k (folded o ps es) ≡ lookup k (folded o qs es)
  told_alike k ps qs [] h = h refl
  told_alike k ps qs (e ∷ es) h =
      told_alike k (applied o e ps) (applied o e qs) es (λ none. lookup_applied o ordered k e ps ∙ by none (equal e.key k) h ∙ sym (lookup_applied o ordered k e qs)) where
        by : tells k es ≡ false → (b : Bool) → ((b || tells k es) ≡ false → lookup k ps ≡ lookup k qs) → cond b (held e) (lookup k ps) ≡ cond b (held e) (lookup k qs)
        by none true g = refl
        by none false g = g none

  -- an element of a key that a newer one has says nothing
  hidden : (q : Pair) (es : List Element) → tells q.key es ≡ true → folded o (q ∷ []) es ≡ folded o [] es
  hidden q es told =
      same_pairs (folded o (q ∷ []) es) (folded o [] es) (ascending_folded o ordered (q ∷ []) es (tt, tt)) (ascending_folded o ordered [] es tt) (λ k.
      told_alike k (q ∷ []) [] es (λ none.
      cond-false (equal q.key k) _ _
      (⊎_elim (λ t. absurd (both_ways _ (subst (λ x. tells x es ≡ false) (sym (equal_true q.key k t)) none) told)) (λ f. f) (cases_Bool (equal q.key k)))))

  -- else its pair is put among the others
  shown : (q : Pair) (es : List Element) → tells q.key es ≡ false → folded o (q ∷ []) es ≡ insert o q (folded o [] es)
  shown q es none =
      same_pairs (folded o (q ∷ []) es) (insert o q (folded o [] es)) (ascending_folded o ordered (q ∷ []) es (tt, tt))
      (ascending_insert o ordered q (folded o [] es) (ascending_folded o ordered [] es tt)) (λ k.
      ⊎_elim
      (λ t.
      untold k (q ∷ []) es (subst (λ x. tells x es ≡ false) (equal_true q.key k t) none) ∙ cond-true (equal q.key k) _ _ t
      ∙ sym (lookup_insert o ordered k q (folded o [] es) ∙ cond-true (equal q.key k) _ _ t))
      (λ f.
      told_alike k (q ∷ []) [] es (λ _. cond-false (equal q.key k) _ _ f) ∙ sym (lookup_insert o ordered k q (folded o [] es) ∙ cond-false (equal q.key k) _ _ f))
      (cases_Bool (equal q.key k)))

  -- the first pair after a key, of pairs that all stand after another key
  sooner_first : (k w : ℕ × ℕ) (ps : List Pair) → Each (λ a. o.before k a ≡ true) ps → sooner o k (first_after o w ps) ≡ true
  sooner_first k w [] h = refl
  sooner_first k w (p ∷ ps) h =
      elim (o.before w p.key) as (λ b. sooner o k (cond b (Some p) (first_after o w ps)) ≡ true) [ true ↦ h.0 | false ↦ sooner_first k w ps h.1 ]

  asymmetric : (a b : ℕ × ℕ) → o.before a b ≡ true → o.before b a ≡ false
  asymmetric a b h = ⊎_elim (λ t. absurd (both_ways _ (ordered.irreflexive a) (ordered.transitive a b a h t))) (λ f. f) (cases_Bool (o.before b a))

  own_told : {X : Type 0} (p : Pair) (k : ℕ × ℕ) (ps : List Pair) → p.key ≡ k → lookup k (p ∷ ps) ≡ None → X
  own_told p k ps same none = some_none (sym (lookup_own p ps) ∙ ap (λ x. lookup x (p ∷ ps)) same ∙ none)

  module _ (w : ℕ × ℕ) (q : Pair) where
    -- the pair that is put, if it is the first one after the key, else the first of the others
    abbrev chosen : Option Pair → Option Pair
    chosen r = cond (o.before w q.key && sooner o q.key r) (Some q) r

    first_inserted : (ps : List Pair) → Ascending o ps → lookup q.key ps ≡ None → first_after o w (insert o q ps) ≡ chosen (first_after o w ps)
    first_inserted [] up none = elim (o.before w q.key) as (λ b. cond b (Some q) None ≡ cond (b && true) (Some q) None) [ true ↦ refl | false ↦ refl ]
    first_inserted (p ∷ ps) up none =
        ⊎_elim
        (λ lt.
        let back = asymmetric p.key q.key lt in
        let differ : equal p.key q.key ≡ false = ⊎_elim (λ t. own_told p q.key ps (equal_true p.key q.key t) none) (λ f. f) (cases_Bool (equal p.key q.key)) in
        let ih = first_inserted ps up.1 (sym (cond-false (equal p.key q.key) _ _ differ) ∙ none) in
        ap (first_after o w) (cond-true (o.before p.key q.key) _ _ lt)
        ∙ ⊎_elim
        (λ t.
        cond-true (o.before w p.key) _ _ t
        ∙ sym (ap chosen (cond-true (o.before w p.key) (Some p) (first_after o w ps) t) ∙ ap (λ b. cond (o.before w q.key && b) (Some q) (Some p)) back ∙ and_none (o.before w q.key) (Some q) (Some p)))
        (λ f. cond-false (o.before w p.key) _ _ f ∙ ih ∙ sym (ap chosen (cond-false (o.before w p.key) (Some p) (first_after o w ps) f))) (cases_Bool (o.before w p.key)))
        (λ ge.
        let later : o.before q.key p.key ≡ true =
        ⊎_elim (λ t. t) (λ f. own_told p q.key ps (ordered.connected p.key q.key ge f) none) (cases_Bool (o.before q.key p.key)) in
        let all = each_map o (λ a. o.before p.key a ≡ true) (λ a. o.before q.key a ≡ true) (λ a. ordered.transitive q.key p.key a later) ps up.0 in
        let past = sooner_first q.key w (p ∷ ps) (later, all) in
        ap (first_after o w) (cond-false (o.before p.key q.key) _ _ ge ∙ ap (λ l. q ∷ l) (cond-true (o.before q.key p.key) _ _ later))
        ∙ sym (ap (λ b. cond (o.before w q.key && b) (Some q) (first_after o w (p ∷ ps))) past ∙ and_whole (o.before w q.key) (Some q) (first_after o w (p ∷ ps)))) (cases_Bool (o.before p.key q.key))

  module _ (w : ℕ × ℕ) (e : Element) (es : List Element) where
    abbrev best : Option Pair
    best = first_after o w (folded o [] es)

    -- One element more, older than the others.
    pub next_older : first_after o w (folded o [] (e ∷ es)) ≡ cond (nearer o w e best && not (tells e.key es)) (Some (pair_of e)) best
    next_older =
        ⊎_elim
        (λ one.
        ap (λ b. first_after o w (folded o (cond b (pair_of e ∷ []) []) es)) one
        ∙ ⊎_elim
        (λ told.
        ap (first_after o w) (hidden (pair_of e) es told)
        ∙ sym (ap (λ b. cond (nearer o w e best && not b) (Some (pair_of e)) best) told ∙ and_none (nearer o w e best) (Some (pair_of e)) best))
        (λ none.
        ap (first_after o w) (shown (pair_of e) es none) ∙ first_inserted w (pair_of e) (folded o [] es) (ascending_folded o ordered [] es tt) (untold e.key [] es none)
        ∙ sym (ap (λ b. cond (nearer o w e best && not b) (Some (pair_of e)) best) none ∙ and_whole (nearer o w e best) (Some (pair_of e)) best
        ∙ ap (λ b. cond (b && (o.before w e.key && sooner o e.key best)) (Some (pair_of e)) best) one)) (cases_Bool (tells e.key es)))
        (λ other.
        ap (λ b. first_after o w (folded o (cond b (pair_of e ∷ []) []) es)) other
        ∙ sym (ap (λ b. cond ((b && (o.before w e.key && sooner o e.key best)) && not (tells e.key es)) (Some (pair_of e)) best) other)) (cases_Bool (eqb e.sign 1))

  -- One turn of asking from the newest element on.
  pub next_turn : (w : ℕ × ℕ) (es : List Element) (i : ℕ) (d : Element) → i < length es
      → first_after o w (folded o [] (drop i es))
      ≡ cond (nearer o w (get_or es i d) (first_after o w (folded o [] (drop (i + 1) es))) && not (tells (get_or es i d).key (drop (i + 1) es))) (Some (pair_of (get_or es i d))) (first_after o w (folded o [] (drop (i + 1) es)))
  next_turn w es i d lt = ap (λ l. first_after o w (folded o [] l)) (drop_more es i d lt) ∙ next_older w (get_or es i d) (drop (i + 1) es)
