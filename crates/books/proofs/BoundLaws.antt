-- Bounds part the keys of a memory that opens, and locating by them finds a key's leaf.
use Rattle.std.proofs.Common.{◌≡◌, ℕ, suc, ◌<◌, Bool, true, false, List, [], ◌∷◌, length, Some, None, Option, sym, refl, ap, ◌∙◌, subst, ⊎_elim, arith}
use Rattle.std.proofs.lemmas.Bool.{cases_Bool, cond-true, cond-false, false≢true}
use Rattle.keys.specs.InWords.{WordKind, WordOrdered}
use Rattle.leaves.specs.Layout.{element, count_of}
use Rattle.leaves.specs.Pairs.{pairs}
use Rattle.leaves.specs.Opening.{after, greatest}
use Rattle.leaves.proofs.BookLaws.{after_more, between, good_after, greatest_top, key_before}
use Rattle.books.specs.Opens.{Fine, AllFine, lone}
use Rattle.books.specs.Bounds.{Keys, Bounded, locate, Place, Locates, value, bounds_of, OpeningBounds}
use Rattle.books.proofs.OpensLaws.{opens_from}

abbrev pub Busy : List ℕ → List ℕ → Type 0
Busy m [] = Unit {0}
Busy m (k ∷ ks) = (0 < count_of m k) × Busy m ks

module _ (m : List ℕ) where
  pub keys_map : (P Q : ℕ × ℕ → Type 0) → ((x : ℕ × ℕ) → P x → Q x) → (ks : List ℕ) → Keys P m ks → Keys Q m ks
  keys_map P Q f [] h = tt
  keys_map P Q f (k ∷ ks) h = (λ s l. f (element m k s).key (h.0 s l), keys_map P Q f ks h.1)

module _ (o : WordKind) (m : List ℕ) where
  pub all_busy : (bound : Option (ℕ × ℕ)) (ks : List ℕ) → AllFine o m false bound ks → Busy m ks
  all_busy bound [] h = tt
  all_busy bound (k ∷ ks) h = (⊎_elim (λ e. absurd (false≢true e)) (λ l. l) h.0.some, all_busy (greatest o m k (count_of m k)) ks h.1)

  pub fine_after : (alone : Bool) (x : Option (ℕ × ℕ)) (k : ℕ) → Fine o m alone x k → (s : ℕ) → s < count_of m k → after o x (element m k s).key ≡ true
  fine_after alone x k h s l = good_after o m x (pairs o m k s) (element m k s) (h.each s l)

module _ (o : WordKind) (ordered : WordOrdered o) (m : List ℕ) where
  -- every counted key of leaves in a row is after the bound before them
  pub fine_past : (bound : Option (ℕ × ℕ)) (ks : List ℕ) → AllFine o m false bound ks → Keys (λ x. after o bound x ≡ true) m ks
  fine_past bound [] h = tt
  fine_past bound (k ∷ ks) h =
      let some : 0 < count_of m k = (all_busy o m bound (k ∷ ks) h).0 in
      let first = fine_after o m false bound k h.0 0 some in (
        fine_after o m false bound k h.0,
        keys_map m _ _ (λ x more. after_more o ordered m bound (element m k 0).key x first (key_before o ordered m k (count_of m k) 0 some x more)) ks (fine_past (greatest o m k (count_of m k)) ks h.1),
      )

module _ (o : WordKind) (ordered : WordOrdered o) where
  -- w is not after b, and b is before x
  under : (w b x : ℕ × ℕ) → o.before b w ≡ false → o.before b x ≡ true → o.before w x ≡ true
  under w b x le lt =
      ⊎_elim (λ less. ordered.transitive w b x less lt) (λ tied. subst (λ a. o.before a x ≡ true) (ordered.connected b w le tied) lt) (cases_Bool (o.before w b))

  pub locates : (m ks : List ℕ) (bs : List (ℕ × ℕ)) (w : ℕ × ℕ) → Bounded o m ks bs → Place o m ks bs w
  locates m [] bs w h = absurd h
  locates m (k ∷ []) [] w h = record { pre = []; leaf = k; post = []; leaves = refl; place = refl; above = tt; below = tt }
  locates m (k ∷ []) (b ∷ bs) w h = absurd h
  locates m (k ∷ l ∷ ks) [] w h = absurd h
  locates m (k ∷ l ∷ ks) (b ∷ bs) w h =
      ⊎_elim
      (λ past.
      let p = locates m (l ∷ ks) bs w h.2 in
      record {
        pre = k ∷ p.pre;
        leaf = p.leaf;
        post = p.post;
        leaves = ap (λ js. k ∷ js) p.leaves;
        place = ap suc p.place ∙ sym (cond-true (o.before b w) _ _ past);
        above = (λ s lt. between o ordered m b (element m k s).key w (h.0 s lt) past, p.above);
        below = p.below;
      })
      (λ here. record {
        pre = [];
        leaf = k;
        post = l ∷ ks;
        leaves = refl;
        place = sym (cond-false (o.before b w) (suc (locate o w bs)) 0 here);
        above = tt;
        below = keys_map m (λ x. o.before b x ≡ true) (λ x. o.before w x ≡ true) (λ x lt. under w b x here lt) (l ∷ ks) h.1;
      })
      (cases_Bool (o.before b w))

  -- a place further on: the first bound is before w
  pub locate_more : (w c : ℕ × ℕ) (bs : List (ℕ × ℕ)) (n : ℕ) → suc n ≡ locate o w (c ∷ bs) → (o.before c w ≡ true) × (n ≡ locate o w bs)
  locate_more w c bs n e =
      ⊎_elim (λ t. (t, let f = e ∙ cond-true (o.before c w) (suc (locate o w bs)) 0 t in omega arith))
      (λ f. absurd (let g = e ∙ cond-false (o.before c w) (suc (locate o w bs)) 0 f in omega arith)) (cases_Bool (o.before c w))

  top_is : (m : List ℕ) (k s : ℕ) → s < count_of m k → (greatest o m k (count_of m k) ≡ Some (value (greatest o m k (count_of m k)))) × (o.before (value (greatest o m k (count_of m k))) (element m k s).key ≡ false)
  top_is m k s l =
      let (g, is, le) = greatest_top o ordered m k (count_of m k) s l in
      (is ∙ ap Some (sym (ap value is)), subst (λ x. o.before x (element m k s).key ≡ false) (sym (ap value is)) le)

  bounded_row : (m : List ℕ) (bound : Option (ℕ × ℕ)) (k : ℕ) (ks : List ℕ) → AllFine o m false bound (k ∷ ks) → Bounded o m (k ∷ ks) (bounds_of o m (k ∷ ks))
  bounded_row m bound k [] h = tt
  bounded_row m bound k (l ∷ ks) h =
      let some = (all_busy o m bound (k ∷ l ∷ ks) h).0 in
      let is = (top_is m k 0 some).0 in (
        λ s lt. (top_is m k s lt).1,
        keys_map m (λ x. after o (greatest o m k (count_of m k)) x ≡ true) (λ x. o.before (value (greatest o m k (count_of m k))) x ≡ true) (λ x more. subst (λ g. after o g x ≡ true) is more) (l ∷ ks) (fine_past o ordered m (greatest o m k (count_of m k)) (l ∷ ks) h.1),
        bounded_row m (greatest o m k (count_of m k)) l ks h.1,
      )

  bounded_fine : (m ks : List ℕ) → 0 < length ks → AllFine o m (lone ks) None ks → Bounded o m ks (bounds_of o m ks)
  bounded_fine m [] l h = absurd (omega arith)
  bounded_fine m (k ∷ []) l h = tt
  bounded_fine m (k ∷ j ∷ ks) l h = bounded_row m None k (j ∷ ks) h

pub locates_hold : Locates
locates_hold o ordered m ks bs w h = locates o ordered m ks bs w h

pub opening_bounds_hold : OpeningBounds
opening_bounds_hold o ordered m ks h = let opens = opens_from o m ks h in bounded_fine o ordered m ks opens.some opens.fine
