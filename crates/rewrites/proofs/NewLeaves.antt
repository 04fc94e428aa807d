-- New leaves that stand in the words: they are without fault, and hold their pairs.
use Rattle.std.proofs.Common.{◌≡◌, ℕ, suc, ◌+◌, ◌<◌, ◌≤◌, Bool, true, false, ◌⊎◌, List, [], ◌∷◌, ◌++◌, length, None, Option, sym, refl, ap, ◌∙◌, subst, inl, inr, ⊎_elim, append_assoc, append-nil, arith}
use Rattle.std.proofs.lemmas.Bool.{cases_eq, cond-false, and_from}
use Rattle.keys.specs.InWords.{WordKind, WordOrdered}
use Rattle.leaves.specs.declared.leaf.Element.{Element}
use Rattle.leaves.specs.declared.leaf.Pair.{Pair}
use Rattle.leaves.specs.Layout.{element, next_of, count_of, form_of}
use Rattle.leaves.specs.Pairs.{equal, lookup, insert, applied, pairs}
use Rattle.leaves.specs.Opening.{sign_fits, after, good, greatest}
use Rattle.leaves.specs.Ascent.{Each, Ascending, all_pairs}
use Rattle.leaves.proofs.AscentLaws.{each_map}
use Rattle.books.specs.Opens.{Leads, Fine, AllFine, lone}
use Rattle.books.specs.Bounds.{Keys}
use Rattle.books.proofs.BoundLaws.{Busy, fine_after, keys_map}
use Rattle.books.proofs.FootprintLaws.{KeptLeaves, greatest_upto}
use Rattle.appends.specs.Append.{signed}
use Rattle.appends.proofs.AppendBook.{greatest_before, fine_same, all_fine_same, insert_after}
use Rattle.rewrites.specs.Rewrite.{Filling, leaf_numbers, contents, first_leaf, SomePairs, Fillings}
use Rattle.books.proofs.QuestionLaws.{unlike}
use Rattle.rewrites.proofs.KeyLists.{each_left, each_right, each_swap, ascending_left, ascending_right, ascending_cross, before_next, keys_each_swap}

abbrev pub Written : List ℕ → ℕ → ℕ → List Pair → Type 0
Written m k s [] = Unit {0}
Written m k s (p ∷ ps) = (element m k s ≡ signed p.key (1, p.reading)) × Written m k (s + 1) ps

pub record Filled (m : List ℕ) (next : ℕ) (f : Filling) : Type 0 where
  pub next_is : next_of m f.leaf ≡ next
  pub count : count_of m f.leaf ≡ length f.content
  pub form : form_of m f.leaf ≡ 0
  pub written : Written m f.leaf 0 f.content

abbrev pub AllFilled : List ℕ → List ℕ → List Filling → Type 0
AllFilled m post [] = Unit {0}
AllFilled m post (f ∷ fs) = Filled m (first_leaf (leaf_numbers fs ++ post)) f × AllFilled m post fs

pub leads_filled : (m post : List ℕ) (fs : List Filling) → Fillings (λ f. 1 ≤ f.leaf) fs → AllFilled m post fs → Leads m (first_leaf post) post → Leads m (first_leaf (leaf_numbers fs ++ post)) (leaf_numbers fs ++ post)
leads_filled m post [] some h rest = rest
leads_filled m post (f ∷ fs) some h rest = (refl, some.0, rw h.0.next_is (leads_filled m post fs some.1 h.1 rest))

module _ (o : WordKind) (ordered : WordOrdered o) (m : List ℕ) (k : ℕ) where
  lookup_none : (w : ℕ × ℕ) (ps : List Pair) → Each (λ x. o.before x w ≡ true) ps → lookup w ps ≡ None
  lookup_none w [] h = refl
  lookup_none w (p ∷ ps) h = cond-false (equal p.key w) _ _ (unlike o ordered p.key w h.0) ∙ lookup_none w ps h.1

  pairs_one : (s : ℕ) (acc : List Pair) (p : Pair) → pairs o m k s ≡ acc → element m k s ≡ signed p.key (1, p.reading) → Each (λ x. o.before x p.key ≡ true) acc → pairs o m k (s + 1) ≡ acc ++ (p ∷ [])
  pairs_one s acc p was is less =
      let e : s + 1 ≡ suc s = omega arith in
      rw e (ap (λ y. applied o y (pairs o m k s)) is ∙ (ap (insert o p) was ∙ (ap (insert o p) (sym (append-nil acc)) ∙ insert_after o ordered p acc [] less)))

  pub pairs_written : (s : ℕ) (acc ps : List Pair) → pairs o m k s ≡ acc → Written m k s ps → Ascending o (acc ++ ps) → pairs o m k (s + length ps) ≡ acc ++ ps
  pairs_written s acc [] was h up = let e : s + 0 ≡ s = omega arith in rw e (was ∙ sym (append-nil acc))
  pairs_written s acc (p ∷ ps) was h up =
      let e : s + suc (length ps) ≡ s + 1 + length ps = omega arith in
      let again = append_assoc acc (p ∷ []) ps in
      rw e (pairs_written (s + 1) (acc ++ (p ∷ [])) ps (pairs_one s acc p was h.0 (before_next o acc p ps up)) h.1 (rw again up) ∙ again)

  pub good_written : (bound : Option (ℕ × ℕ)) (s : ℕ) (acc ps : List Pair) → pairs o m k s ≡ acc → Written m k s ps → Ascending o (acc ++ ps) → Each (λ x. o.valid x ≡ true) ps → Each (λ x. after o bound x ≡ true) ps
      → (t : ℕ) → s ≤ t → t < s + length ps → good o bound (pairs o m k t) (element m k t) ≡ true
  good_written bound s acc [] was h up valid past t l u = absurd (omega arith)
  good_written bound s acc (p ∷ ps) was h up valid past t l u =
      let less = before_next o acc p ps up in
      ⊎_elim
      (λ same. rw same (ap (good o bound (pairs o m k s)) h.0 ∙ and_from _ _ (and_from _ _ valid.0 past.0) (ap (sign_fits 1 p.reading) (ap (lookup p.key) was ∙ lookup_none p.key acc less))))
      (λ other. good_written bound (s + 1) (acc ++ (p ∷ [])) ps (pairs_one s acc p was h.0 less) h.1 (rw (append_assoc acc (p ∷ []) ps) up) valid.1 past.1 t (omega arith) (omega arith))
      (cases_eq t s)

  pub key_written : (P : ℕ × ℕ → Type 0) (s : ℕ) (ps : List Pair) → Written m k s ps → Each P ps → (t : ℕ) → s ≤ t → t < s + length ps → P (element m k t).key
  key_written P s [] h each t l u = absurd (omega arith)
  key_written P s (p ∷ ps) h each t l u =
      ⊎_elim (λ same. rw same (subst P (sym (ap (λ (y : Element). y.key) h.0)) each.0)) (λ other. key_written P (s + 1) ps h.1 each.1 t (omega arith) (omega arith)) (cases_eq t s)

module _ (o : WordKind) (m : List ℕ) where
  fine_busy : (alone other : Bool) (bound : Option (ℕ × ℕ)) (k : ℕ) → 0 < count_of m k → Fine o m alone bound k → Fine o m other bound k
  fine_busy alone other bound k some h = record { few = h.few; form = h.form; some = inr some; each = h.each }

  pub all_fine_busy : (alone other : Bool) (bound : Option (ℕ × ℕ)) (ks : List ℕ) → Busy m ks → AllFine o m alone bound ks → AllFine o m other bound ks
  all_fine_busy alone other bound [] b h = tt
  all_fine_busy alone other bound (k ∷ ks) b h = (fine_busy alone other bound k b.0 h.0, all_fine_busy alone other (greatest o m k (count_of m k)) ks b.1 h.1)

  pub fine_take : (alone : Bool) (bound : Option (ℕ × ℕ)) (xs ys : List ℕ) → AllFine o m alone bound (xs ++ ys) → AllFine o m alone bound xs
  fine_take alone bound [] ys h = tt
  fine_take alone bound (x ∷ xs) ys h = (h.0, fine_take alone (greatest o m x (count_of m x)) xs ys h.1)

  pub fine_drop : (alone : Bool) (bound : Option (ℕ × ℕ)) (xs ys : List ℕ) → AllFine o m alone bound (xs ++ ys) → (x : Option (ℕ × ℕ)) × AllFine o m alone x ys
  fine_drop alone bound [] ys h = (bound, h)
  fine_drop alone bound (x ∷ xs) ys h = fine_drop alone (greatest o m x (count_of m x)) xs ys h.1

-- Around leaves that go, either nothing is left or no leaf was alone.
pub not_alone : (pre old post : List ℕ) → 0 < length old → ((pre ≡ []) × (post ≡ [])) ⊎ (lone (pre ++ (old ++ post)) ≡ false)
not_alone [] [] post l = absurd (omega arith)
not_alone [] (x ∷ []) [] l = inl (refl, refl)
not_alone [] (x ∷ []) (y ∷ post) l = inr refl
not_alone [] (x ∷ y ∷ old) post l = inr refl
not_alone (k ∷ []) [] post l = absurd (omega arith)
not_alone (k ∷ []) (x ∷ old) post l = inr refl
not_alone (k ∷ j ∷ pre) old post l = inr refl

-- What the leaves around keep: fine by themselves, and none empty.
pub around : (o : WordKind) (m pre old post : List ℕ) → 0 < length old → AllFine o m (lone (pre ++ (old ++ post))) None (pre ++ (old ++ post))
    → (AllFine o m false None pre) × ((x : Option (ℕ × ℕ)) × AllFine o m false x post)
around o m pre old post l h =
    ⊎_elim
    (λ e. rw (e.0, e.1) (tt, (None, tt)))
    (λ f.
    let h' = subst (λ t. AllFine o m t None (pre ++ (old ++ post))) f h in
    let (x, rest) = fine_drop o m false None pre (old ++ post) h' in
    (fine_take o m false None pre (old ++ post) h', fine_drop o m false x old post rest))
    (not_alone pre old post l)

-- What is asked of new leaves that stand in words a before the leaves after them, which are those of words b.
pub record Fresh (o : WordKind) (a b post : List ℕ) (fs : List Filling) : Type 0 where
  pub filled : AllFilled a post fs
  pub sizes : Fillings SomePairs fs
  pub valid : Each (λ k. o.valid k ≡ true) (contents fs)
  pub up : Ascending o (contents fs)
  pub below : Each (λ k. Keys (λ y. o.before k y ≡ true) b post) (contents fs)

module _ (o : WordKind) (ordered : WordOrdered o) (a b post : List ℕ) where
  -- The leaves after the new ones, whose keys are after another bound.
  rest_fine : (bound x : Option (ℕ × ℕ)) (ks : List ℕ) → KeptLeaves a b ks → Keys (λ y. after o bound y ≡ true) b ks → AllFine o b false x ks → AllFine o a false bound ks
  rest_fine bound x [] kept past h = tt
  rest_fine bound x (k ∷ ks) kept past h = (
    fine_same o a b false x bound k kept.0 past.0 h.0,
    rw (kept.0.count, greatest_upto o a b k (count_of b k) kept.0.each) (all_fine_same o a b false (greatest o b k (count_of b k)) ks kept.1 h.1),
  )

  -- The first of new leaves, and what it leaves to the others.
  module _ (f : Filling) (fs : List Filling) (new : Fresh o a b post (f ∷ fs)) where
    up_here : Ascending o f.content
    up_here = ascending_left o f.content (contents fs) new.up

    first_pairs : pairs o a f.leaf (count_of a f.leaf) ≡ f.content
    first_pairs =
        let e : 0 + length f.content ≡ length f.content = omega arith in
        rw new.filled.0.count (rw e at (pairs_written o ordered a f.leaf 0 [] f.content refl new.filled.0.written up_here))

    first_fine : (bound : Option (ℕ × ℕ)) → Each (λ k. after o bound k ≡ true) (contents (f ∷ fs)) → Fine o a false bound f.leaf
    first_fine bound past =
        let c = new.filled.0.count in
        let s = new.sizes.0 in
        let valid = each_left _ f.content (contents fs) new.valid in
        let here = each_left _ f.content (contents fs) past in
        record {
          few = omega arith;
          form = new.filled.0.form;
          some = inr (omega arith);
          each = λ s l. good_written o ordered a f.leaf bound 0 [] f.content refl new.filled.0.written up_here valid here s (omega arith) (omega arith);
        }

    -- What all its keys are before is after its greatest.
    first_bound : (y : ℕ × ℕ) → Each (λ k. o.before k y ≡ true) f.content → after o (greatest o a f.leaf (count_of a f.leaf)) y ≡ true
    first_bound y h =
        let c = new.filled.0.count in
        greatest_before o a f.leaf (count_of a f.leaf) y (λ t l. key_written o ordered a f.leaf (λ k. o.before k y ≡ true) 0 f.content new.filled.0.written h t (omega arith) (omega arith))

    pub others : Fresh o a b post fs
    others = record {
      filled = new.filled.1;
      sizes = new.sizes.1;
      valid = each_right _ f.content (contents fs) new.valid;
      up = ascending_right o f.content (contents fs) new.up;
      below = each_right _ f.content (contents fs) new.below;
    }

    others_past : Each (λ k. after o (greatest o a f.leaf (count_of a f.leaf)) k ≡ true) (contents fs)
    others_past = each_map o _ _ first_bound (contents fs) (each_swap (λ k y. o.before k y ≡ true) o f.content (contents fs) (ascending_cross o f.content (contents fs) new.up))

    post_past : Keys (λ y. after o (greatest o a f.leaf (count_of a f.leaf)) y ≡ true) b post
    post_past = keys_map b _ _ first_bound post (keys_each_swap o b f.content post (each_left _ f.content (contents fs) new.below))

  pub new_pairs : (fs : List Filling) → Fresh o a b post fs → all_pairs o a (leaf_numbers fs) ≡ contents fs
  new_pairs [] new = refl
  new_pairs (f ∷ fs) new = rw (first_pairs f fs new, new_pairs fs (others f fs new))

  module _ (kept_post : KeptLeaves a b post) (x : Option (ℕ × ℕ)) (post_fine : AllFine o b false x post) where
    new_fine : (bound : Option (ℕ × ℕ)) (f : Filling) (fs : List Filling) → Fresh o a b post (f ∷ fs) → Each (λ k. after o bound k ≡ true) (contents (f ∷ fs)) → AllFine o a false bound (f.leaf ∷ (leaf_numbers fs ++ post))
    new_fine bound f [] new past = (first_fine f [] new bound past, rest_fine _ x post kept_post (post_past f [] new) post_fine)
    new_fine bound f (g ∷ fs) new past = (first_fine f (g ∷ fs) new bound past, new_fine (greatest o a f.leaf (count_of a f.leaf)) g fs (others f (g ∷ fs) new) (others_past f (g ∷ fs) new))

    -- The leaves before them as they were, and then the new ones.
    pub replaced_fine : (bound : Option (ℕ × ℕ)) (pre : List ℕ) (f : Filling) (fs : List Filling) → KeptLeaves a b pre → AllFine o b false bound pre → Fresh o a b post (f ∷ fs)
        → Each (λ k. after o bound k ≡ true) (contents (f ∷ fs)) → Each (λ k. Keys (λ y. o.before y k ≡ true) b pre) (contents (f ∷ fs)) → AllFine o a false bound (pre ++ (leaf_numbers (f ∷ fs) ++ post))
    replaced_fine bound [] f fs kept fine new past above = new_fine bound f fs new past
    replaced_fine bound (k ∷ pre) f fs kept fine new past above = (
      fine_same o a b false bound bound k kept.0 (fine_after o b false bound k fine.0) fine.0,
      rw (kept.0.count, greatest_upto o a b k (count_of b k) kept.0.each)
          (replaced_fine (greatest o b k (count_of b k)) pre f fs kept.1 fine.1 new
          (each_map o _ _ (λ y h. greatest_before o b k (count_of b k) y h.0) (contents (f ∷ fs)) above) (each_map o _ _ (λ y h. h.1) (contents (f ∷ fs)) above)),
    )
