-- What is read of a leaf's elements, said of the leaf's slots.
use Rattle.std.proofs.Common.{◌≡◌, ℕ, zero, suc, ◌+◌, ◌-◌, ◌<◌, Bool, true, false, cond, List, [], ◌∷◌, ◌++◌, length, get_or, take, drop, map, reverse, Some, Option, option_and_then, sym, refl, ap, ◌∙◌, arith}
use Rattle.std.specs.List.{find, fold, range_with_len}
use Rattle.std.proofs.lemmas.Bool.{cond-true, cond-false}
use Rattle.std.proofs.lemmas.List.{drop_more, map-append, reverse-append, reverse-reverse}
use Rattle.std.proofs.lemmas.List.Sums.{fold_more, fold_push}
use Rattle.std.proofs.lemmas.List.FromFn.{length-map-range_with_len, map-range_with_len_more}
use Rattle.fixed_vec.specs.Items.{joined}
use Rattle.keys.specs.InWords.{WordKind, WordOrdered}
use Rattle.leaves.specs.declared.leaf.Element.{Element}
use Rattle.leaves.specs.Layout.{element, elements}
use Rattle.leaves.specs.Pairs.{equal, lookup, held, applied, folded, latest, pairs}
use Rattle.leaves.specs.Opening.{good, first_bad, first_bad_of, later, greatest, greatest_key}
use Rattle.leaves.proofs.PairLaws.{lookup_applied}
use Rattle.fixed_vec.proofs.Rooms.{joined_all}

elements_more : (m : List ℕ) (k n : ℕ) → elements m k (suc n) ≡ elements m k n ++ element m k n ∷ []
elements_more m k n = let e : suc n ≡ n + 1 = omega arith in ap (elements m k) e ∙ map-range_with_len_more (element m k) 0 n n (omega arith)

pub length_elements : (m : List ℕ) (k n : ℕ) → length (elements m k n) ≡ n
length_elements m k n = length-map-range_with_len (element m k) 0 n

pub elements_joined : (m : List ℕ) (k s : ℕ) → s < 16 → joined 16 (elements m k s) (element m k s ∷ []) ≡ elements m k (s + 1)
elements_joined m k s h =
    let n = length-map-range_with_len (element m k) 0 s in
    joined_all 16 (elements m k s) (element m k s ∷ []) (omega arith) ∙ sym (map-range_with_len_more (element m k) 0 s s (omega arith))

-- What a key's newest element says of it, with one element more.
pub latest_more : (w : ℕ × ℕ) (m : List ℕ) (k s : ℕ) → latest w (elements m k (s + 1)) ≡ cond (equal (element m k s).key w) (held (element m k s)) (latest w (elements m k s))
latest_more w m k s =
    let e = element m k s in
    let es = elements m k s in
    ap (latest w) (map-range_with_len_more (element m k) 0 s s (omega arith))
    ∙ ap (λ ds. option_and_then held (find (λ d. equal d.key w) ds)) (reverse-append es (e ∷ []))
    ∙ elim (equal e.key w) as (λ b. option_and_then held (cond b (Some e) (find (λ d. equal d.key w) (reverse es))) ≡ cond b (held e) (latest w es)) [ true ↦ refl | false ↦ refl ]

-- The newest of r elements decides if it is the key's, else the others do.
module _ (w : ℕ × ℕ) (m : List ℕ) (k r s : ℕ) (one : s + 1 ≡ r) where
  pub latest_newest : equal (element m k s).key w ≡ true → latest w (elements m k r) ≡ held (element m k s)
  latest_newest is = ap (λ n. latest w (elements m k n)) (sym one) ∙ latest_more w m k s ∙ cond-true _ _ _ is

  pub latest_others : equal (element m k s).key w ≡ false → latest w (elements m k r) ≡ latest w (elements m k s)
  latest_others is = ap (λ n. latest w (elements m k n)) (sym one) ∙ latest_more w m k s ∙ cond-false _ _ _ is

module _ (o : WordKind) where
  pub pairs_folded : (m : List ℕ) (k n : ℕ) → pairs o m k n ≡ folded o [] (elements m k n)
  pairs_folded m k zero = refl
  pairs_folded m k (suc n) =
      ap (applied o (element m k n)) (pairs_folded m k n) ∙ sym (fold_push (λ ps e. applied o e ps) [] (elements m k n) (element m k n)) ∙ ap (folded o []) (sym (elements_more m k n))

  -- the first bad slot, from slot s on
  pub bad_from : (m : List ℕ) (bound : Option (ℕ × ℕ)) (k s n : ℕ) → first_bad o m bound k s n ≡ first_bad_of o bound (pairs o m k s) s (map (element m k) (range_with_len s n))
  bad_from m bound k s zero = refl
  bad_from m bound k s (suc n) =
      let e : s + 1 ≡ suc s = omega arith in
      let next : pairs o m k (s + 1) ≡ applied o (element m k s) (pairs o m k s) = ap (pairs o m k) e in
      ap (λ r. cond (good o bound (pairs o m k s) (element m k s)) r (Some (s + 1)))
      (bad_from m bound k (s + 1) n ∙ ap (λ ps. first_bad_of o bound ps (s + 1) (map (element m k) (range_with_len (s + 1) n))) next)

  -- one turn of looking for the first bad element
  pub bad_turn : (bound : Option (ℕ × ℕ)) (es : List Element) (i : ℕ) (d : Element) → i < length es
      → first_bad_of o bound (folded o [] (take i es)) i (drop i es) ≡ cond (good o bound (folded o [] (take i es)) (get_or es i d)) (first_bad_of o bound (folded o [] (take (i + 1) es)) (i + 1) (drop (i + 1) es)) (Some (i + 1))
  bad_turn bound es i d h =
      ap (first_bad_of o bound (folded o [] (take i es)) i) (drop_more es i d h)
      ∙ ap (λ ps. cond (good o bound (folded o [] (take i es)) (get_or es i d)) (first_bad_of o bound ps (i + 1) (drop (i + 1) es)) (Some (i + 1))) (sym (fold_more (λ ps e. applied o e ps) [] es i d h))

  -- one turn of looking for the first bad slot of n
  slot_turn : (m : List ℕ) (bound : Option (ℕ × ℕ)) (k s n : ℕ) → s < n
      → first_bad_of o bound (folded o [] (elements m k s)) s (map (element m k) (range_with_len s (n - s)))
      ≡ cond (good o bound (folded o [] (elements m k s)) (element m k s)) (first_bad_of o bound (folded o [] (elements m k (s + 1))) (s + 1) (map (element m k) (range_with_len (s + 1) (n - (s + 1))))) (Some (s + 1))
  slot_turn m bound k s n h =
      let e = element m k s in
      let es = elements m k s in
      let left : n - s ≡ suc (n - (s + 1)) = omega arith in
      let more = ap (folded o []) (map-range_with_len_more (element m k) 0 s s (omega arith)) ∙ fold_push (λ ps d. applied o d ps) [] es e in
      ap (λ r. first_bad_of o bound (folded o [] es) s (map (element m k) (range_with_len s r))) left
      ∙ ap (λ ps. cond (good o bound (folded o [] es) e) (first_bad_of o bound ps (s + 1) (map (element m k) (range_with_len (s + 1) (n - (s + 1))))) (Some (s + 1))) (sym more)

  -- the same from what is told in it: `was` is what remains of the answer `all`
  module _ {m n : List ℕ} (bound : Option (ℕ × ℕ)) (k s c : ℕ) {all : Option ℕ} {older : List Element} {e : Element} {r : Bool} (more : s < c)
      (was : first_bad_of o bound (folded o [] (elements m k s)) s (map (element m k) (range_with_len s (c - s))) ≡ all) (same : n ≡ m) (list : older ≡ elements m k s) (one : e ≡ element n k s) (is : r ≡ good o bound (folded o [] older) e) where
    turned : all ≡ cond r (first_bad_of o bound (folded o [] (elements m k (s + 1))) (s + 1) (map (element m k) (range_with_len (s + 1) (c - (s + 1))))) (Some (s + 1))
    turned = rw (is, list, one, same) (sym was ∙ slot_turn m bound k s c more)

    pub slot_bad : r ≡ false → all ≡ Some (s + 1)
    slot_bad h = turned ∙ cond-false _ _ _ h

    pub slot_good : r ≡ true → first_bad_of o bound (folded o [] (elements m k (s + 1))) (s + 1) (map (element m k) (range_with_len (s + 1) (c - (s + 1)))) ≡ all
    slot_good h = sym (turned ∙ cond-true _ _ _ h)

  key_push : (es : List Element) (e : Element) → greatest_key o (es ++ e ∷ []) ≡ Some (later o e.key (greatest_key o es))
  key_push [] e = refl
  key_push (d ∷ es) e =
      ap (λ ks. Some (fold (λ x y. cond (o.before x y) y x) d.key ks)) (map-append (λ (x : Element). x.key) es (e ∷ [])) ∙ ap Some (fold_push (λ x y. cond (o.before x y) y x) d.key (map (λ (x : Element). x.key) es) e.key)

  pub greatest_reduced : (m : List ℕ) (k n : ℕ) → greatest o m k n ≡ greatest_key o (elements m k n)
  greatest_reduced m k zero = refl
  greatest_reduced m k (suc n) =
      ap (λ b. Some (later o (element m k n).key b)) (greatest_reduced m k n) ∙ sym (key_push (elements m k n) (element m k n)) ∙ ap (greatest_key o) (sym (elements_more m k n))

  -- one turn of looking for the greatest key
  pub greatest_slot : {m n : List ℕ} {key : ℕ × ℕ} {best : Option (ℕ × ℕ)} {more : ℕ × ℕ} (k s : ℕ) → n ≡ m → best ≡ greatest o m k s → key ≡ (element n k s).key → more ≡ later o key best → Some more ≡ greatest o m k (s + 1)
  greatest_slot {m} k s same was read is = let e : s + 1 ≡ suc s = omega arith in rw e (cc)

module _ (o : WordKind) (ordered : WordOrdered o) (w : ℕ × ℕ) where
  -- the newest element of a key decides, here of elements from the newest on
  lookup_reversed : (es : List Element) → lookup w (folded o [] (reverse es)) ≡ option_and_then held (find (λ e. equal e.key w) es)
  lookup_reversed [] = refl
  lookup_reversed (e ∷ es) =
      let more = ap (folded o []) (reverse-append (e ∷ []) es) ∙ fold_push (λ ps d. applied o d ps) [] (reverse es) e in
      let one = lookup_applied o ordered w e (folded o [] (reverse es)) in
      ap (lookup w) more ∙ one
      ∙ elim (equal e.key w) as (λ b. cond b (held e) (lookup w (folded o [] (reverse es))) ≡ option_and_then held (cond b (Some e) (find (λ d. equal d.key w) es))) [ true ↦ refl | false ↦ lookup_reversed es ]

  pub lookup_folded : (es : List Element) → lookup w (folded o [] es) ≡ latest w es
  lookup_folded es = ap (λ ds. lookup w (folded o [] ds)) (sym (reverse-reverse es)) ∙ lookup_reversed (reverse es)

  pub lookup_pairs : (m : List ℕ) (k n : ℕ) → latest w (elements m k n) ≡ lookup w (pairs o m k n)
  lookup_pairs m k n = sym (ap (lookup w) (pairs_folded o m k n) ∙ lookup_folded (elements m k n))
