-- Find, next and pairs tell of a book what its leaves tell.
use Rattle.std.proofs.Common.{◌≡◌, ℕ, ◌+◌, ◌-◌, true, false, cond, List, [], ◌∷◌, ◌++◌, length, Some, None, Ok, sym, refl, ap, ◌∙◌, subst, ⊎_elim, append_assoc, length-append}
use Rattle.std.proofs.lemmas.Bool.{both_ways, cases_Bool, cond-true, cond-false}
use Rattle.keys.specs.InWords.{WordKind, WordOrdered}
use Rattle.leaves.specs.declared.leaf.Pair.{Pair}
use Rattle.leaves.specs.Layout.{count_of, word}
use Rattle.leaves.specs.Pairs.{equal, first_after, lookup, pairs}
use Rattle.leaves.specs.Opening.{open_answer}
use Rattle.leaves.specs.Ascent.{Ascending, Each, all_pairs}
use Rattle.leaves.proofs.PairLaws.{equal_true}
use Rattle.leaves.proofs.AscentLaws.{each_map, each_pairs}
use Rattle.leaves.proofs.BookLaws.{book_ascends, each_append, walk_chain, walked}
use Rattle.books.specs.Bounds.{Keys}
use Rattle.books.specs.Footprint.{linked}
use Rattle.leaves.proofs.ElementLaws.{lookup_pairs}
use Rattle.books.specs.Questions.{Ascends, NewestDecides, Finds, Nexts, Counts, first_of, or_else, pairs_in_all}

-- an opened list of leaves is the chain of the words
pub linked_is : (o : WordKind) → WordOrdered o → (m ks : List ℕ) → open_answer o m ≡ Ok ks → linked m ≡ ks
linked_is o ordered m ks h = sym (walk_chain o ordered m (word m 3 - 1) [] None 0 (word m 2) ks (walked o ordered m ks h))

pub all_pairs_append : (o : WordKind) (m xs ys : List ℕ) → all_pairs o m (xs ++ ys) ≡ all_pairs o m xs ++ all_pairs o m ys
all_pairs_append o m [] ys = refl
all_pairs_append o m (x ∷ xs) ys = ap (λ ps. pairs o m x (count_of m x) ++ ps) (all_pairs_append o m xs ys) ∙ sym (append_assoc (pairs o m x (count_of m x)) _ _)

module _ (o : WordKind) (ordered : WordOrdered o) where
  pub keys_each : (P : ℕ × ℕ → Type 0) (m ks : List ℕ) → Keys P m ks → Each P (all_pairs o m ks)
  keys_each P m [] h = tt
  keys_each P m (k ∷ ks) h = each_append o ordered m P (pairs o m k (count_of m k)) (all_pairs o m ks) (each_pairs o P m k (count_of m k) h.0) (keys_each P m ks h.1)

  pub unlike : (x y : ℕ × ℕ) → o.before x y ≡ true → equal x y ≡ false
  unlike x y h = ⊎_elim (λ e. absurd (both_ways _ (ordered.irreflexive y) (rw (equal_true x y e) at h))) (λ f. f) (cases_Bool (equal x y))

  pub unlike_back : (x y : ℕ × ℕ) → o.before y x ≡ true → equal x y ≡ false
  unlike_back x y h = ⊎_elim (λ e. absurd (both_ways _ (ordered.irreflexive y) (rw (equal_true x y e) at h))) (λ f. f) (cases_Bool (equal x y))

  pub not_back : (x y : ℕ × ℕ) → o.before x y ≡ true → o.before y x ≡ false
  not_back x y h = ⊎_elim (λ t. absurd (both_ways _ (ordered.irreflexive x) (ordered.transitive x y x h t))) (λ f. f) (cases_Bool (o.before y x))

lookup_past : (w : ℕ × ℕ) (ps qs : List Pair) → Each (λ x. equal x w ≡ false) ps → lookup w (ps ++ qs) ≡ lookup w qs
lookup_past w [] qs h = refl
lookup_past w (p ∷ ps) qs h = cond-false (equal p.key w) _ _ h.0 ∙ lookup_past w ps qs h.1

lookup_front : (w : ℕ × ℕ) (ps qs : List Pair) → lookup w qs ≡ None → lookup w (ps ++ qs) ≡ lookup w ps
lookup_front w [] qs h = h
lookup_front w (p ∷ ps) qs h = ap (cond (equal p.key w) (Some p.reading)) (lookup_front w ps qs h)

lookup_no : (w : ℕ × ℕ) (ps : List Pair) → Each (λ x. equal x w ≡ false) ps → lookup w ps ≡ None
lookup_no w [] h = refl
lookup_no w (p ∷ ps) h = cond-false (equal p.key w) _ _ h.0 ∙ lookup_no w ps h.1

pub finds_hold : Finds
finds_hold o ordered m pre k post w b =
    let here = pairs o m k (count_of m k) in
    let less = each_map o (λ x. o.before x w ≡ true) (λ x. equal x w ≡ false) (λ x h. unlike o ordered x w h) (all_pairs o m pre) (keys_each o ordered _ m pre b.above) in
    let more = each_map o (λ x. o.before w x ≡ true) (λ x. equal x w ≡ false) (λ x h. unlike_back o ordered x w h) (all_pairs o m post) (keys_each o ordered _ m post b.below) in
    ap (λ (ks : List ℕ). lookup w (all_pairs o m ks)) (linked_is o ordered m (pre ++ k ∷ post) b.opens)
    ∙ (ap (lookup w) (all_pairs_append o m pre (k ∷ post)) ∙ (lookup_past w (all_pairs o m pre) (here ++ all_pairs o m post) less ∙ lookup_front w here (all_pairs o m post) (lookup_no w (all_pairs o m post) more)))

module _ (o : WordKind) (w : ℕ × ℕ) where
  after_past : (ps qs : List Pair) → Each (λ x. o.before w x ≡ false) ps → first_after o w (ps ++ qs) ≡ first_after o w qs
  after_past [] qs h = refl
  after_past (p ∷ ps) qs h = cond-false (o.before w p.key) _ _ h.0 ∙ after_past ps qs h.1

  after_append : (ps qs : List Pair) → first_after o w (ps ++ qs) ≡ or_else (first_after o w ps) (first_after o w qs)
  after_append [] qs = refl
  after_append (p ∷ ps) qs =
      ⊎_elim
      (λ t. cond-true (o.before w p.key) _ _ t ∙ ap (λ r. or_else r (first_after o w qs)) (sym (cond-true (o.before w p.key) (Some p) (first_after o w ps) t)))
      (λ f. cond-false (o.before w p.key) _ _ f ∙ after_append ps qs ∙ ap (λ r. or_else r (first_after o w qs)) (sym (cond-false (o.before w p.key) (Some p) (first_after o w ps) f)))
      (cases_Bool (o.before w p.key))

  pub first_of_all : (m ks : List ℕ) → first_after o w (all_pairs o m ks) ≡ first_of o m w ks
  first_of_all m [] = refl
  first_of_all m (k ∷ ks) = after_append (pairs o m k (count_of m k)) (all_pairs o m ks) ∙ ap (or_else (first_after o w (pairs o m k (count_of m k)))) (first_of_all m ks)

pub nexts_hold : Nexts
nexts_hold o ordered m pre k post w b =
    let less = each_map o (λ x. o.before x w ≡ true) (λ x. o.before w x ≡ false) (λ x h. not_back o ordered x w h) (all_pairs o m pre) (keys_each o ordered _ m pre b.above) in
    ap (λ (ks : List ℕ). first_after o w (all_pairs o m ks)) (linked_is o ordered m (pre ++ k ∷ post) b.opens)
    ∙ (ap (first_after o w) (all_pairs_append o m pre (k ∷ post)) ∙ (after_past o w (all_pairs o m pre) (all_pairs o m (k ∷ post)) less ∙ first_of_all o w m (k ∷ post)))

counted_all : (o : WordKind) (m ks : List ℕ) → length (all_pairs o m ks) ≡ pairs_in_all o m ks
counted_all o m [] = refl
counted_all o m (k ∷ ks) = length-append (pairs o m k (count_of m k)) (all_pairs o m ks) ∙ ap (λ n. length (pairs o m k (count_of m k)) + n) (counted_all o m ks)

pub counts_hold : Counts
counts_hold o ordered m ks h = ap (λ (js : List ℕ). length (all_pairs o m js)) (linked_is o ordered m ks h) ∙ counted_all o m ks

pub ascends_hold : Ascends
ascends_hold o ordered m ks opens = subst (λ js. Ascending o (all_pairs o m js)) (sym (linked_is o ordered m ks opens)) (book_ascends o ordered m ks opens)

pub newest_decides_holds : NewestDecides
newest_decides_holds o ordered m k w = sym (lookup_pairs o ordered w m k (count_of m k))
