-- The pairs of a memory that opens ascend from leaf to leaf.
use Rattle.std.proofs.Common.{◌≡◌, ℕ, zero, suc, ◌+◌, ◌-◌, ◌*◌, ◌<◌, ◌≤◌, Bool, true, false, cond, not, ◌&&◌, ◌||◌, eqb, ltb, leb, ◌⊎◌, List, [], ◌∷◌, ◌++◌, length, IfOk, Some, None, Ok, Err, Option, Result, sym, refl, ap, ◌∙◌, inl, inr, ⊎_elim, append_assoc, append-nil, arith}
use Rattle.std.proofs.lemmas.Bool.{cases_Bool, cases_eq, cond-true, cond-false, cond_both, and_parts, or_cases, ltb-true, eqb-true, both_ways}
use Rattle.fixed_vec.specs.declared.FixedVec.{FixedVec}
use Rattle.keys.specs.InWords.{WordKind, WordOrdered}
use Rattle.leaves.specs.declared.leaf.Element.{Element}
use Rattle.leaves.specs.declared.leaf.Pair.{Pair}
use Rattle.leaves.specs.declared.open.Fault.{Fault}
use Rattle.refusal.specs.declared.Refusal.TheVariants.{WrongLength, WrongMark, OtherKind, LeafCount}
use Rattle.leaves.specs.Opening.{plain, bad_link_of}
use Rattle.leaves.specs.Layout.{word, element, next_of, count_of, form_of}
use Rattle.leaves.specs.Pairs.{pairs}
use Rattle.leaves.specs.Opening.{after, good, first_bad, leaf_fault, later, greatest, member, ended, checked, walk, leaves_of, told, open_answer}
use Rattle.leaves.specs.Ascent.{Each, Ascending, all_pairs, chain}
use Rattle.leaves.proofs.OpeningLaws.{walk_ended}
use Rattle.leaves.proofs.AscentLaws.{each_pairs, each_map, ascending_pairs}

pub some_none : {A B : Type 0} {x : A} {r : Option A} → r ≡ Some x → r ≡ None → B
some_none p q = let z : ◌≡◌ {A = ℕ} 0 1 = cc in absurd (omega arith)

pub err_ok : {A E B : Type 0} {x : A} {e : E} {r : Result A E} → r ≡ Err e → r ≡ Ok x → B
err_ok p q = let z : ◌≡◌ {A = ℕ} 0 1 = cc in absurd (omega arith)

module _ (o : WordKind) (m : List ℕ) where
  pub good_after : (bound : Option (ℕ × ℕ)) (ps : List Pair) (e : Element) → good o bound ps e ≡ true → after o bound e.key ≡ true
  good_after bound ps e h = (and_parts (o.valid e.key) (after o bound e.key) (and_parts _ _ h).0).1

  -- no bad slot: every slot is good
  pub all_good : (bound : Option (ℕ × ℕ)) (l s n : ℕ) → first_bad o m bound l s n ≡ None → (t : ℕ) → s ≤ t → t < s + n → good o bound (pairs o m l t) (element m l t) ≡ true
  all_good bound l s zero h t le lt = absurd (omega arith)
  all_good bound l s (suc n) h t le lt =
      ⊎_elim (λ yes-good. ⊎_elim (λ same. rw same yes-good)
      (λ other. all_good bound l (s + 1) n (sym (cond-true _ _ _ yes-good) ∙ h) t (omega arith) (omega arith)) (cases_eq t s))
      (λ bad. some_none (cond-false (good o bound (pairs o m l s) (element m l s)) _ (Some (s + 1)) bad) h) (cases_Bool (good o bound (pairs o m l s) (element m l s)))

  fault_none : (bound : Option (ℕ × ℕ)) (alone : Bool) (l : ℕ) → leaf_fault o m bound alone l ≡ None → (first_bad o m bound l 0 (count_of m l) ≡ None) × ((alone ≡ true) ⊎ (0 < count_of m l))
  fault_none bound alone l h =
      ⊎_elim (λ t. (sym (cond-true _ _ _ t) ∙ h, ⊎_elim inl (λ some. inr (ltb-true 0 (count_of m l) some)) (or_cases alone _ (and_parts _ _ t).1)))
      (λ f. some_none (cond-false (leb (count_of m l) 16 && eqb (form_of m l) 0 && (alone || ltb 0 (count_of m l))) _ (Some 0) f) h) (cases_Bool _)

module _ (o : WordKind) (ordered : WordOrdered o) (m : List ℕ) where
  -- a ≤ g < b
  pub between : (g a b : ℕ × ℕ) → o.before g a ≡ false → o.before g b ≡ true → o.before a b ≡ true
  between g a b le lt =
      ⊎_elim (λ less. ordered.transitive a g b less lt) (λ tied. rw (← (ordered.connected g a le tied)) lt)
      (cases_Bool (o.before a g))

  pub after_more : (bound : Option (ℕ × ℕ)) (a b : ℕ × ℕ) → after o bound a ≡ true → o.before a b ≡ true → after o bound b ≡ true
  after_more None a b h lt = refl
  after_more (Some c) a b h lt = ordered.transitive c a b h lt

  Over : Option (ℕ × ℕ) → ℕ × ℕ → Type 0
  Over r k = (g : ℕ × ℕ) × (r ≡ Some g) × (o.before g k ≡ false)

  over_later : (a : ℕ × ℕ) (best : Option (ℕ × ℕ)) (k : ℕ × ℕ) → Over best k → Over (Some (later o a best)) k
  unfolding Over
  over_later a best k (g, is, le) =
      rw is (cond_both (o.before g a) a g (λ h. (x : ℕ × ℕ) × (Some h ≡ Some x) × (o.before x k ≡ false))
      (λ less. (a, refl, ⊎_elim (λ t. absurd (both_ways _ le (ordered.transitive g a k less t))) (λ f. f) (cases_Bool (o.before a k))))
      (λ more. (g, refl, le)))

  over_self : (best : Option (ℕ × ℕ)) (k : ℕ × ℕ) → Over (Some (later o k best)) k
  unfolding Over
  over_self None k = (k, refl, ordered.irreflexive k)
  over_self (Some b) k =
      cond_both (o.before b k) k b (λ h. (x : ℕ × ℕ) × (Some h ≡ Some x) × (o.before x k ≡ false)) (λ less. (k, refl, ordered.irreflexive k)) (λ more. (b, refl, more))

  -- no key of a leaf is after the greatest
  greatest_over : (l n s : ℕ) → s < n → Over (greatest o m l n) (element m l s).key
  greatest_over l zero s lt = absurd (omega arith)
  greatest_over l (suc n) s lt =
      ⊎_elim (λ same. rw same (over_self (greatest o m l n) (element m l n).key))
      (λ other. over_later (element m l n).key (greatest o m l n) (element m l s).key (greatest_over l n s (omega arith))) (cases_eq s n)

  pub greatest_top : (l n s : ℕ) → s < n → (g : ℕ × ℕ) × (greatest o m l n ≡ Some g) × (o.before g (element m l s).key ≡ false)
  unfolding Over
  greatest_top l n s lt = greatest_over l n s lt

  -- what is after the greatest key of a leaf is after every one
  pub key_before : (l n s : ℕ) → s < n → (b : ℕ × ℕ) → after o (greatest o m l n) b ≡ true → o.before (element m l s).key b ≡ true
  unfolding Over
  key_before l n s lt b more = let (g, top, le) = greatest_over l n s lt in between g (element m l s).key b le (rw top at more)

  pub each_append : (P : ℕ × ℕ → Type 0) (xs ys : List Pair) → Each P xs → Each P ys → Each P (xs ++ ys)
  each_append P [] ys h k = k
  each_append P (x ∷ xs) ys h k = (h.0, each_append P xs ys h.1 k)

  pub ascending_append : (xs ys : List Pair) → Ascending o xs → Ascending o ys → Each (λ a. Each (λ b. o.before a b ≡ true) ys) xs → Ascending o (xs ++ ys)
  ascending_append [] ys h k all = k
  ascending_append (x ∷ xs) ys h k all = (each_append (λ b. o.before x.key b ≡ true) xs ys h.0 all.0, ascending_append xs ys h.1 k all.1)

  -- the last of a chain, and what a walk from a link on finds
  Found : List ℕ → Option (ℕ × ℕ) → List ℕ → Type 0
  Found used bound ks = (rest : List ℕ) × (ks ≡ used ++ rest) × Ascending o (all_pairs o m rest) × Each (λ k. after o bound k ≡ true) (all_pairs o m rest)

  ended_is : (from : ℕ) (used ks : List ℕ) → ended from used ≡ Ok ks → ks ≡ used ++ []
  ended_is from used ks h =
      ⊎_elim (λ t. err_ok (cond-true (eqb from 0) (Err (bad_link_of 0)) (Ok used) t) h)
      (λ f. let e : used ≡ ks = cc (cond-false (eqb from 0) (Err (bad_link_of 0)) (Ok used) f) in sym e ∙ sym (append-nil used)) (cases_Bool (eqb from 0))

  none_left : (from : ℕ) (used ks : List ℕ) (bound : Option (ℕ × ℕ)) → ended from used ≡ Ok ks → Found used bound ks
  unfolding Found
  none_left from used ks bound h = ([], ended_is from used ks h, tt, tt)

  module _ (bound : Option (ℕ × ℕ)) (l : ℕ) (every : (s : ℕ) → s < count_of m l → good o bound (pairs o m l s) (element m l s) ≡ true) where
    leaf_after : Each (λ k. after o bound k ≡ true) (pairs o m l (count_of m l))
    leaf_after = each_pairs o _ m l (count_of m l) (λ s lt. good_after o m bound (pairs o m l s) (element m l s) (every s lt))

    leaf_before : (ys : List Pair) → Each (λ b. after o (greatest o m l (count_of m l)) b ≡ true) ys → Each (λ a. Each (λ b. o.before a b ≡ true) ys) (pairs o m l (count_of m l))
    unfolding Over
    leaf_before ys h =
        each_pairs o _ m l (count_of m l) (λ s lt.
        let (g, top, le) = greatest_over l (count_of m l) s lt in
        each_map o _ _ (λ b more. between g (element m l s).key b le (rw top at more)) ys h)

    -- a leaf with an element hands its bound on
    handed : 0 < count_of m l → (ys : List Pair) → Each (λ b. after o (greatest o m l (count_of m l)) b ≡ true) ys → Each (λ b. after o bound b ≡ true) ys
    unfolding Over
    handed some ys h =
        let k = (element m l 0).key in
        let (g, top, le) = greatest_over l (count_of m l) 0 some in
        let past = good_after o m bound (pairs o m l 0) (element m l 0) (every 0 some) in
        each_map o _ _ (λ b more. after_more bound k b past (between g k b le (rw top at more))) ys h

  -- a refusal is passed over on the way to an answer
  past : {E : Type 0} (b : Bool) (e : E) (x : Result (List ℕ) E) (ks : List ℕ) → cond b (Err e) x ≡ Ok ks → x ≡ Ok ks
  past true e x ks h = err_ok refl h
  past false e x ks h = h

  joined : (used : List ℕ) (bound : Option (ℕ × ℕ)) (l : ℕ) (ks rest : List ℕ) → first_bad o m bound l 0 (count_of m l) ≡ None → ks ≡ (used ++ (l ∷ [])) ++ rest → Ascending o (all_pairs o m rest) → Each (λ k. after o (greatest o m l (count_of m l)) k ≡ true) (all_pairs o m rest) → Each (λ k. after o bound k ≡ true) (all_pairs o m rest) → Found used bound ks
  unfolding Found
  joined used bound l ks rest fine e up top more =
      let every : (s : ℕ) → s < count_of m l → good o bound (pairs o m l s) (element m l s) ≡ true = λ s lt. all_good o m bound l 0 (count_of m l) fine s (omega arith) (omega arith) in (
        l ∷ rest,
        e ∙ append_assoc used (l ∷ []) rest,
        ascending_append (pairs o m l (count_of m l)) (all_pairs o m rest) (ascending_pairs o ordered m l (count_of m l)) up (leaf_before bound l every (all_pairs o m rest) top),
        each_append _ (pairs o m l (count_of m l)) (all_pairs o m rest) (leaf_after bound l every) more,
      )

  walk_found : (n : ℕ) (used : List ℕ) (bound : Option (ℕ × ℕ)) (from link : ℕ) (ks : List ℕ) → walk o m n used bound from link ≡ Ok ks → Found used bound ks
  unfolding Found
  walk_found zero used bound from link ks h =
      ⊎_elim (λ t. none_left from used ks bound (sym (cond-true (eqb link 0) _ _ t) ∙ h)) (λ f. err_ok (cond-false (eqb link 0) _ (Err (bad_link_of from)) f) h) (cases_Bool (eqb link 0))
  walk_found (suc n) used bound from link ks h =
      ⊎_elim (λ t. none_left from used ks bound (sym (cond-true (eqb link 0) _ _ t) ∙ h))
      (λ f. by (walk_found n (used ++ (link ∷ [])) (greatest o m link (count_of m link)) link (next_of m link) ks) (leaf_fault o m bound (eqb from 0 && eqb (next_of m link) 0) link) refl (past (ltb (word m 3) link || member link used) _ _ ks (sym (cond-false (eqb link 0) _ _ f) ∙ h))) (cases_Bool (eqb link 0)) where
        by : (walk o m n (used ++ (link ∷ [])) (greatest o m link (count_of m link)) link (next_of m link) ≡ Ok ks → Found (used ++ (link ∷ [])) (greatest o m link (count_of m link)) ks) → (r : Option ℕ) → leaf_fault o m bound (eqb from 0 && eqb (next_of m link) 0) link ≡ r → checked link r (walk o m n (used ++ (link ∷ [])) (greatest o m link (count_of m link)) link (next_of m link)) ≡ Ok ks → Found used bound ks
        by go (Some s) is e = err_ok refl e
        by go None is e =
            let (fine, which) = fault_none o m bound (eqb from 0 && eqb (next_of m link) 0) link is in
            ⊎_elim
            (λ alone.
            let z : next_of m link ≡ 0 = eqb-true (next_of m link) 0 (and_parts (eqb from 0) _ alone).1 in
            let end = walk_ended o m n (used ++ (link ∷ [])) (greatest o m link (count_of m link)) link (next_of m link) z in
            joined used bound link ks [] fine (ended_is link (used ++ (link ∷ [])) ks (sym end ∙ e)) tt tt tt)
            (λ some.
            let (rest, is-rest, up, top) = go e in
            let every : (s : ℕ) → s < count_of m link → good o bound (pairs o m link s) (element m link s) ≡ true = λ s lt. all_good o m bound link 0 (count_of m link) fine s (omega arith) (omega arith) in
            joined used bound link ks rest fine is-rest up top (handed bound link every some (all_pairs o m rest) top))
            which

  pub walked : (ks : List ℕ) → open_answer o m ≡ Ok ks → walk o m (word m 3 - 1) [] None 0 (word m 2) ≡ Ok ks
  walked ks h = past (ltb (length m) (8 + 72 * word m 3)) (plain WrongLength) _ ks (past (ltb (word m 3) 2 || ltb 64 (word m 3)) (plain LeafCount) _ ks (past (not (eqb (word m 1) o.code)) (plain OtherKind) _ ks (past (not (eqb (word m 0) 30366)) (plain WrongMark) _ ks (past (ltb (length m) 152) (plain WrongLength) _ ks h))))

  pub book_ascends : (ks : List ℕ) → open_answer o m ≡ Ok ks → Ascending o (all_pairs o m ks)
  unfolding Found
  book_ascends ks h = let (rest, e, up, more) = walk_found (word m 3 - 1) [] None 0 (word m 2) ks (walked ks h) in rw e up

  pub walk_chain : (n : ℕ) (used : List ℕ) (bound : Option (ℕ × ℕ)) (from link : ℕ) (ks : List ℕ) → walk o m n used bound from link ≡ Ok ks → ks ≡ used ++ chain m n link
  walk_chain zero used bound from link ks h =
      ⊎_elim (λ t. ended_is from used ks (sym (cond-true (eqb link 0) _ _ t) ∙ h)) (λ f. err_ok (cond-false (eqb link 0) _ (Err (bad_link_of from)) f) h) (cases_Bool (eqb link 0))
  walk_chain (suc n) used bound from link ks h =
      ⊎_elim (λ t. ended_is from used ks (sym (cond-true (eqb link 0) _ _ t) ∙ h) ∙ ap (λ xs. used ++ xs) (sym (cond-true (eqb link 0) [] (link ∷ chain m n (next_of m link)) t)))
      (λ f. by (walk_chain n (used ++ (link ∷ [])) (greatest o m link (count_of m link)) link (next_of m link) ks) (leaf_fault o m bound (eqb from 0 && eqb (next_of m link) 0) link) (past (ltb (word m 3) link || member link used) _ _ ks (sym (cond-false (eqb link 0) _ _ f) ∙ h)) ∙ append_assoc used (link ∷ []) (chain m n (next_of m link)) ∙ ap (λ xs. used ++ xs) (sym (cond-false (eqb link 0) [] (link ∷ chain m n (next_of m link)) f))) (cases_Bool (eqb link 0)) where
        by : (walk o m n (used ++ (link ∷ [])) (greatest o m link (count_of m link)) link (next_of m link) ≡ Ok ks → ks ≡ (used ++ (link ∷ [])) ++ chain m n (next_of m link)) → (r : Option ℕ) → checked link r (walk o m n (used ++ (link ∷ [])) (greatest o m link (count_of m link)) link (next_of m link)) ≡ Ok ks → ks ≡ (used ++ (link ∷ [])) ++ chain m n (next_of m link)
        by go (Some s) e = err_ok refl e
        by go None e = go e

  pub chained : (r : Result (FixedVec ℕ 64) Fault) → told r ≡ open_answer o m → IfOk r (λ c. leaves_of c ≡ chain m (word m 3 - 1) (word m 2))
  chained (Ok c) h = walk_chain (word m 3 - 1) [] None 0 (word m 2) (leaves_of c) (walked (leaves_of c) (sym h))
  chained (Err e) h = tt

  pub opened : (r : Result (FixedVec ℕ 64) Fault) → told r ≡ open_answer o m → IfOk r (λ c. Ascending o (all_pairs o m (leaves_of c)))
  opened (Ok c) h = book_ascends (leaves_of c) (sym h)
  opened (Err e) h = tt
