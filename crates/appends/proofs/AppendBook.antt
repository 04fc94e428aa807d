-- A leaf that has grown by elements of one key: it is as fine as before, and the book has the new elements.
use Rattle.std.proofs.Common.{◌≡◌, ℕ, zero, suc, ◌+◌, ◌<◌, ◌≤◌, Bool, true, false, cond, not, ◌&&◌, eqb, List, [], ◌∷◌, ◌++◌, length, Some, None, Option, sym, refl, ap, ◌∙◌, inl, inr, ⊎_elim, arith}
use Rattle.std.proofs.lemmas.Bool.{cases_lt, cases_eq, cond-true, cond-false, cond_both, and_parts, and_from}
use Rattle.std.proofs.lemmas.List.Elements.{filter-append}
use Rattle.keys.specs.InWords.{WordKind, WordOrdered}
use Rattle.leaves.specs.declared.leaf.Element.{Element}
use Rattle.leaves.specs.declared.leaf.Pair.{Pair}
use Rattle.leaves.specs.Layout.{element, next_of, count_of, form_of}
use Rattle.leaves.specs.Pairs.{equal, lookup, insert, delete, applied, pairs}
use Rattle.leaves.specs.Opening.{sign_fits, after, good, later, greatest}
use Rattle.leaves.specs.Ascent.{Each, all_pairs}
use Rattle.leaves.proofs.AscentLaws.{each_map}
use Rattle.leaves.proofs.BookLaws.{key_before}
use Rattle.books.specs.Bounds.{Keys}
use Rattle.books.specs.Opens.{Fine, AllFine}
use Rattle.books.proofs.BoundLaws.{fine_after}
use Rattle.books.proofs.FootprintLaws.{SameLeaves, KeptLeaf, KeptLeaves, kept_of, all_kept_of, pairs_upto, greatest_upto, all_pairs_same}
use Rattle.books.proofs.QuestionLaws.{all_pairs_append, keys_each, unlike, unlike_back, not_back}
use Rattle.appends.specs.Append.{signed, all_applied, Follow}
use Rattle.appends.proofs.AppendWords.{Stand}

module _ (o : WordKind) (m : List ℕ) where
  -- the greatest of keys that are all before b is before b
  pub greatest_before : (k n : ℕ) (b : ℕ × ℕ) → ((s : ℕ) → s < n → o.before (element m k s).key b ≡ true) → after o (greatest o m k n) b ≡ true
  greatest_before k zero b h = refl
  greatest_before k (suc n) b h = at (greatest o m k n) (greatest_before k n b (λ s l. h s (omega arith)))
    where
      at : (g : Option (ℕ × ℕ)) → after o g b ≡ true → o.before (later o (element m k n).key g) b ≡ true
      at None e = h n (omega arith)
      at (Some c) e = cond_both (o.before c (element m k n).key) (element m k n).key c (λ x. o.before x b ≡ true) (λ _. h n (omega arith)) (λ _. e)

  -- the elements that stand after others come to their pairs
  module _ (k : ℕ) (w : ℕ × ℕ) where
    pub pairs_stand : (s : ℕ) (xs : List (ℕ × ℕ)) → Stand k w m s xs → pairs o m k (s + length xs) ≡ all_applied o w xs (pairs o m k s)
    pairs_stand s [] h = let e : s + 0 ≡ s = omega arith in rw e
    pairs_stand s (x ∷ xs) h =
        let e : s + suc (length xs) ≡ s + 1 + length xs = omega arith in
        let f : s + 1 ≡ suc s = omega arith in
        rw e (pairs_stand (s + 1) xs h.1 ∙ ap (all_applied o w xs) (rw f (ap (λ y. applied o y (pairs o m k s)) h.0)))

    good_one : (bound : Option (ℕ × ℕ)) (s : ℕ) (x : ℕ × ℕ) → o.valid w ≡ true → after o bound w ≡ true → element m k s ≡ signed w x → sign_fits x.0 x.1 (lookup w (pairs o m k s)) ≡ true → good o bound (pairs o m k s) (element m k s) ≡ true
    good_one bound s x v a is f = ap (good o bound (pairs o m k s)) is ∙ and_from _ _ (and_from _ _ v a) f

    pub good_stand : (bound : Option (ℕ × ℕ)) (s : ℕ) (xs : List (ℕ × ℕ)) → o.valid w ≡ true → after o bound w ≡ true → Stand k w m s xs → Follow o w (pairs o m k s) xs
        → (t : ℕ) → s ≤ t → t < s + length xs → good o bound (pairs o m k t) (element m k t) ≡ true
    good_stand bound s [] v a h f t l u = absurd (omega arith)
    good_stand bound s (x ∷ xs) v a h f t l u =
        let e : s + 1 ≡ suc s = omega arith in
        let is : applied o (signed w x) (pairs o m k s) ≡ pairs o m k (s + 1) = rw e (ap (λ y. applied o y (pairs o m k s)) (sym h.0)) in
        ⊎_elim (λ same. rw same (good_one bound s x v a h.0 f.0))
        (λ other. good_stand bound (s + 1) xs v a h.1 (rw is at f.1) t (omega arith) (omega arith)) (cases_eq t s)

    pub key_stands : (s : ℕ) (xs : List (ℕ × ℕ)) → Stand k w m s xs → (t : ℕ) → s ≤ t → t < s + length xs → (element m k t).key ≡ w
    key_stands s [] h t l u = absurd (omega arith)
    key_stands s (x ∷ xs) h t l u =
        ⊎_elim (λ same. rw same (ap (λ (y : Element). y.key) h.0)) (λ other. key_stands (s + 1) xs h.1 t (omega arith) (omega arith)) (cases_eq t s)

-- an element stays good after another bound that its key is after
good_rebound : (o : WordKind) (a b : Option (ℕ × ℕ)) (ps : List Pair) (e : Element) → good o a ps e ≡ true → after o b e.key ≡ true → good o b ps e ≡ true
good_rebound o a b ps e h l =
    let (front, sign) = and_parts (o.valid e.key && after o a e.key) _ h in
    let (v, _) = and_parts (o.valid e.key) _ front in
    and_from _ _ (and_from _ _ v l) sign

module _ (o : WordKind) (a b : List ℕ) where
  -- a leaf that reads alike is as fine, also after another bound
  pub fine_same : (alone : Bool) (x y : Option (ℕ × ℕ)) (k : ℕ) → KeptLeaf a b k → ((s : ℕ) → s < count_of b k → after o y (element b k s).key ≡ true) → Fine o b alone x k → Fine o a alone y k
  fine_same alone x y k same past h = record {
    few = rw same.count h.few;
    form = same.form ∙ h.form;
    some = ⊎_elim inl (λ l. inr (rw same.count l)) h.some;
    each = λ s l.
        let l' : s < count_of b k = rw same.count at l in
        let e = good_rebound o x y (pairs o b k s) (element b k s) (h.each s l') (past s l') in
        ap (good o y (pairs o a k s)) (same.each s l') ∙ (ap (λ ps. good o y ps (element b k s)) (pairs_upto o a b k s (λ t u. same.each t (omega arith))) ∙ e);
  }

  pub all_fine_same : (alone : Bool) (x : Option (ℕ × ℕ)) (ks : List ℕ) → KeptLeaves a b ks → AllFine o b alone x ks → AllFine o a alone x ks
  all_fine_same alone x [] same h = tt
  all_fine_same alone x (k ∷ ks) same h = (
    fine_same alone x x k same.0 (fine_after o b alone x k h.0) h.0,
    rw (same.0.count, greatest_upto o a b k (count_of b k) same.0.each) (all_fine_same alone (greatest o b k (count_of b k)) ks same.1 h.1),
  )

-- The words b, and the words a after elements of key w went to the end of leaf k.
pub record Grown (a b : List ℕ) (k : ℕ) (w : ℕ × ℕ) (xs : List (ℕ × ℕ)) : Type 0 where
  pub next : next_of a k ≡ next_of b k
  pub count : count_of a k ≡ count_of b k + length xs
  pub form : form_of a k ≡ form_of b k
  pub older : (s : ℕ) → s < count_of b k → element a k s ≡ element b k s
  pub stand : Stand k w a (count_of b k) xs

module _ (o : WordKind) (ordered : WordOrdered o) (a b : List ℕ) (k : ℕ) (w : ℕ × ℕ) (xs : List (ℕ × ℕ)) (grown : Grown a b k w xs) where
  pub grown_pairs : pairs o a k (count_of a k) ≡ all_applied o w xs (pairs o b k (count_of b k))
  grown_pairs =
      rw grown.count (pairs_stand o a k w (count_of b k) xs grown.stand ∙ ap (all_applied o w xs) (pairs_upto o a b k (count_of b k) grown.older))

  module _ (valid : o.valid w ≡ true) (some : 0 < length xs) (room : count_of b k + length xs ≤ 16) (follow : Follow o w (pairs o b k (count_of b k)) xs) where
    grown_fine : (alone : Bool) (bound : Option (ℕ × ℕ)) → after o bound w ≡ true → Fine o b alone bound k → Fine o a alone bound k
    grown_fine alone bound past h =
        let c = grown.count in
        let same = pairs_upto o a b k (count_of b k) grown.older in
        record {
          few = omega arith;
          form = grown.form ∙ h.form;
          some = inr (omega arith);
          each = λ s l. ⊎_elim
              (λ old. ap (good o bound (pairs o a k s)) (grown.older s old) ∙ (ap (λ ps. good o bound ps (element b k s)) (pairs_upto o a b k s (λ t u. grown.older t (omega arith))) ∙ h.each s old))
              (λ new. good_stand o a k w bound (count_of b k) xs valid past grown.stand (rw same follow) s new (omega arith))
              (cases_lt s (count_of b k));
        }

    -- the leaves after it stay fine, since w is before their keys
    after_grown : (key : ℕ × ℕ) → after o (greatest o b k (count_of b k)) key ≡ true → o.before w key ≡ true → after o (greatest o a k (count_of a k)) key ≡ true
    after_grown key old new =
        greatest_before o a k (count_of a k) key (λ t l.
        let c = grown.count in
        ⊎_elim
        (λ less. rw (ap (λ (y : Element). y.key) (grown.older t less)) (key_before o ordered b k (count_of b k) t less key old))
        (λ more. rw (key_stands o a k w (count_of b k) xs grown.stand t more (omega arith)) new)
        (cases_lt t (count_of b k)))

    grown_post : (alone : Bool) (post : List ℕ) → SameLeaves a b post → Keys (λ x. o.before w x ≡ true) b post → AllFine o b alone (greatest o b k (count_of b k)) post → AllFine o a alone (greatest o a k (count_of a k)) post
    grown_post alone [] same below h = tt
    grown_post alone (j ∷ post) same below h = (
      fine_same o a b alone _ _ j (kept_of same.0) (λ s l. after_grown (element b j s).key (fine_after o b alone _ j h.0 s l) (below.0 s l)) h.0,
      rw (same.0.count, greatest_upto o a b j (count_of b j) same.0.each) (all_fine_same o a b alone _ post (all_kept_of a b post same.1) h.1),
    )

    pub grown_all : (alone : Bool) (bound : Option (ℕ × ℕ)) (pre post : List ℕ) → SameLeaves a b pre → SameLeaves a b post → Keys (λ x. o.before x w ≡ true) b pre → Keys (λ x. o.before w x ≡ true) b post → after o bound w ≡ true
        → AllFine o b alone bound (pre ++ k ∷ post) → AllFine o a alone bound (pre ++ k ∷ post)
    grown_all alone bound [] post same_pre same_post above below past h = (grown_fine alone bound past h.0, grown_post alone post same_post below h.1)
    grown_all alone bound (j ∷ pre) post same_pre same_post above below past h = (
      fine_same o a b alone bound bound j (kept_of same_pre.0) (fine_after o b alone bound j h.0) h.0,
      rw (same_pre.0.count, greatest_upto o a b j (count_of b j) same_pre.0.each)
          (grown_all alone (greatest o b j (count_of b j)) pre post same_pre.1 same_post above.1 below (greatest_before o b j (count_of b j) w above.0) h.1),
    )

module _ (o : WordKind) (ordered : WordOrdered o) where
  pub insert_after : (q : Pair) (ps qs : List Pair) → Each (λ x. o.before x q.key ≡ true) ps → insert o q (ps ++ qs) ≡ ps ++ insert o q qs
  insert_after q [] qs h = refl
  insert_after q (p ∷ ps) qs h = cond-true (o.before p.key q.key) _ _ h.0 ∙ ap (λ xs. p ∷ xs) (insert_after q ps qs h.1)

  insert_head : (q : Pair) (ps : List Pair) → Each (λ x. o.before q.key x ≡ true) ps → insert o q ps ≡ q ∷ ps
  insert_head q [] h = refl
  insert_head q (p ∷ ps) h = cond-false (o.before p.key q.key) _ _ (not_back o ordered q.key p.key h.0) ∙ ap (λ xs. q ∷ xs) (cond-true (o.before q.key p.key) (p ∷ ps) ps h.0)

  insert_before : (q : Pair) (ps qs : List Pair) → Each (λ x. o.before q.key x ≡ true) qs → insert o q (ps ++ qs) ≡ insert o q ps ++ qs
  insert_before q [] qs h = insert_head q qs h
  insert_before q (p ∷ ps) qs h = at (o.before p.key q.key) (o.before q.key p.key) (insert_before q ps qs h)
    where
      at : (x y : Bool) → insert o q (ps ++ qs) ≡ insert o q ps ++ qs
          → cond x (p ∷ insert o q (ps ++ qs)) (q ∷ cond y (p ∷ (ps ++ qs)) (ps ++ qs)) ≡ cond x (p ∷ insert o q ps) (q ∷ cond y (p ∷ ps) ps) ++ qs
      at true y e = ap (λ xs. p ∷ xs) e
      at false true e = refl
      at false false e = refl

  pub delete_append : (w : ℕ × ℕ) (ps qs : List Pair) → delete w (ps ++ qs) ≡ delete w ps ++ delete w qs
  delete_append w ps qs = filter-append (λ p. not (equal p.key w)) ps qs

  pub delete_none : (w : ℕ × ℕ) (ps : List Pair) → Each (λ x. equal x w ≡ false) ps → delete w ps ≡ ps
  delete_none w [] h = refl
  delete_none w (p ∷ ps) h = let no = h.0 in let rest = delete_none w ps h.1 in grind arith

  -- an element works on the pairs between smaller and greater keys alone
  module _ (w : ℕ × ℕ) (less : List Pair) (more : List Pair) (above : Each (λ x. o.before x w ≡ true) less) (below : Each (λ x. o.before w x ≡ true) more) where
    applied_between : (x : ℕ × ℕ) (ps : List Pair) → applied o (signed w x) (less ++ (ps ++ more)) ≡ less ++ (applied o (signed w x) ps ++ more)
    applied_between x ps = at (record { key = w; reading = x.1 }) above below (eqb x.0 1)
      where
        at : (q : Pair) → Each (λ y. o.before y q.key ≡ true) less → Each (λ y. o.before q.key y ≡ true) more → (t : Bool) → cond t (insert o q (less ++ (ps ++ more))) (delete w (less ++ (ps ++ more))) ≡ less ++ (cond t (insert o q ps) (delete w ps) ++ more)
        at q above_q below_q true = insert_after q less (ps ++ more) above_q ∙ ap (λ xs. less ++ xs) (insert_before q ps more below_q)
        at q above_q below_q false =
            let l = delete_none w less (each_map o _ _ (λ y h. unlike o ordered y w h) less above) in
            let m = delete_none w more (each_map o _ _ (λ y h. unlike_back o ordered y w h) more below) in
            delete_append w less (ps ++ more) ∙ rw (l, delete_append w ps more, m)

    pub all_applied_between : (xs : List (ℕ × ℕ)) (ps : List Pair) → all_applied o w xs (less ++ (ps ++ more)) ≡ less ++ (all_applied o w xs ps ++ more)
    all_applied_between [] ps = refl
    all_applied_between (x ∷ xs) ps = ap (all_applied o w xs) (applied_between x ps) ∙ all_applied_between xs (applied o (signed w x) ps)

  -- the book of the grown leaves
  pub grown_book : (a b : List ℕ) (k : ℕ) (w : ℕ × ℕ) (xs : List (ℕ × ℕ)) (pre post : List ℕ) → Grown a b k w xs → SameLeaves a b pre → SameLeaves a b post
      → Keys (λ x. o.before x w ≡ true) b pre → Keys (λ x. o.before w x ≡ true) b post
      → all_pairs o a (pre ++ k ∷ post) ≡ all_applied o w xs (all_pairs o b (pre ++ k ∷ post))
  grown_book a b k w xs pre post grown same_pre same_post above below =
      let mid = grown_pairs o ordered a b k w xs grown in
      let l = all_pairs_same o a b pre same_pre in
      let r = all_pairs_same o a b post same_post in
      all_pairs_append o a pre (k ∷ post)
      ∙ (rw (l, mid, r) (sym (all_applied_between w (all_pairs o b pre) (all_pairs o b post) (keys_each o ordered _ b pre above) (keys_each o ordered _ b post below) xs (pairs o b k (count_of b k))))
      ∙ ap (all_applied o w xs) (sym (all_pairs_append o b pre (k ∷ post))))
