-- Opening and its meaning leaf by leaf are the same.
use Rattle.std.proofs.Common.{◌≡◌, ℕ, zero, suc, ◌+◌, ◌-◌, ◌*◌, ◌<◌, ◌≤◌, Bool, true, false, cond, not, ◌&&◌, ◌||◌, eqb, ltb, leb, List, [], ◌∷◌, ◌++◌, length, Some, None, Ok, Err, Option, Result, sym, refl, ap, ◌∙◌, inl, inr, ⊎_elim, append_assoc, append-nil, arith}
use Rattle.std.proofs.lemmas.Bool.{cases_Bool, cond-true, cond-false, and_parts, and_from, and_left, or_cases, or_parts, or_from, or_left, or_right, leb-true, le-leb, ltb-true, ltb-false, lt-ltb, le-ltb, eqb-true, eqb-false, eq-eqb, ne_eqb, not-false, not_from_true}
use Rattle.keys.specs.InWords.{WordKind}
use Rattle.leaves.specs.Layout.{word, element, next_of, count_of, form_of}
use Rattle.leaves.specs.declared.open.Fault.{Fault}
use Rattle.refusal.specs.declared.Refusal.TheVariants.{WrongLength, WrongMark, OtherKind, LeafCount}
use Rattle.leaves.specs.Opening.{plain, bad_link_of}
use Rattle.leaves.specs.Pairs.{pairs}
use Rattle.leaves.specs.Opening.{good, first_bad, leaf_fault, greatest, ended, checked, member, walk, open_answer}
use Rattle.leaves.proofs.BookLaws.{some_none, err_ok, all_good}
use Rattle.books.specs.Opens.{Leads, UpTo, Distinct, Fine, AllFine, lone, Opens, OpeningIs}

-- a refusal that an answer was told in spite of did not hold
past : {E : Type 0} (b : Bool) (e : E) (x : Result (List ℕ) E) (ks : List ℕ) → cond b (Err e) x ≡ Ok ks → (b ≡ false) × (x ≡ Ok ks)
past true e x ks h = err_ok refl h
past false e x ks h = (refl, h)

past_leaf : (k : ℕ) (r : Option ℕ) (x : Result (List ℕ) Fault) (ks : List ℕ) → checked k r x ≡ Ok ks → (r ≡ None) × (x ≡ Ok ks)
past_leaf k None x ks h = (refl, h)
past_leaf k (Some s) x ks h = err_ok refl h

module _ (o : WordKind) (m : List ℕ) where
  none_bad : (bound : Option (ℕ × ℕ)) (k s n : ℕ) → ((t : ℕ) → s ≤ t → t < s + n → good o bound (pairs o m k t) (element m k t) ≡ true) → first_bad o m bound k s n ≡ None
  none_bad bound k s zero h = refl
  none_bad bound k s (suc n) h =
      cond-true (good o bound (pairs o m k s) (element m k s)) _ _ (h s (omega arith) (omega arith))
      ∙ none_bad bound k (s + 1) n (λ t a b. h t (omega arith) (omega arith))

  whole : ℕ → Bool → Bool
  whole k alone = leb (count_of m k) 16 && eqb (form_of m k) 0 && (alone || ltb 0 (count_of m k))

  fine_from : (bound : Option (ℕ × ℕ)) (alone : Bool) (k : ℕ) → leaf_fault o m bound alone k ≡ None → Fine o m alone bound k
  unfolding whole
  fine_from bound alone k h =
      ⊎_elim
      (λ t.
      let (front, some) = and_parts (leb (count_of m k) 16 && eqb (form_of m k) 0) _ t in
      let (few, form) = and_parts (leb (count_of m k) 16) _ front in
      record {
        few = leb-true (count_of m k) 16 few;
        form = eqb-true (form_of m k) 0 form;
        some = ⊎_elim inl (λ l. inr (ltb-true 0 (count_of m k) l)) (or_cases alone _ some);
        each = λ s l. all_good o m bound k 0 (count_of m k) (sym (cond-true (whole k alone) _ _ t) ∙ h) s (omega arith) (omega arith);
      })
      (λ f. some_none (cond-false (whole k alone) (first_bad o m bound k 0 (count_of m k)) (Some 0) f) h)
      (cases_Bool (whole k alone))

  fine_to : (bound : Option (ℕ × ℕ)) (alone : Bool) (k : ℕ) → Fine o m alone bound k → leaf_fault o m bound alone k ≡ None
  unfolding whole
  fine_to bound alone k h =
      cond-true (whole k alone) _ _ (and_from _ _ (and_from _ _ (le-leb (count_of m k) 16 h.few) (eq-eqb (form_of m k) 0 h.form)) (⊎_elim (or_left alone _) (λ l. or_right alone _ (lt-ltb 0 (count_of m k) l)) h.some))
      ∙ none_bad bound k 0 (count_of m k) (λ t a b. h.each t (omega arith))

  -- what a walk checks, step by step
  abbrev Steps : List ℕ → Option (ℕ × ℕ) → ℕ → ℕ → List ℕ → Type 0
  Steps used bound from link [] = (link ≡ 0) × (1 ≤ from)
  Steps used bound from link (k ∷ ks) = (link ≡ k) × (1 ≤ k) × (k ≤ word m 3) × (member k used ≡ false) × Fine o m (eqb from 0 && eqb (next_of m k) 0) bound k × Steps (used ++ (k ∷ [])) (greatest o m k (count_of m k)) k (next_of m k) ks

  abbrev Walked : ℕ → List ℕ → Option (ℕ × ℕ) → ℕ → ℕ → List ℕ → Type 0
  Walked n used bound from link ks = (rest : List ℕ) × (ks ≡ used ++ rest) × (length rest ≤ n) × Steps used bound from link rest

  none_left : (n : ℕ) (used : List ℕ) (bound : Option (ℕ × ℕ)) (from link : ℕ) (ks : List ℕ) → eqb link 0 ≡ true → ended from used ≡ Ok ks → Walked n used bound from link ks
  none_left n used bound from link ks z h =
      let (f, e) = past (eqb from 0) (bad_link_of 0) (Ok used) ks h in
      let same : used ≡ ks = cc in
      let some = eqb-false from 0 f in
      ([], sym same ∙ sym (append-nil used), omega arith, (eqb-true link 0 z, omega arith))

  walk_steps : (n : ℕ) (used : List ℕ) (bound : Option (ℕ × ℕ)) (from link : ℕ) (ks : List ℕ) → walk o m n used bound from link ≡ Ok ks → Walked n used bound from link ks
  walk_steps zero used bound from link ks h =
      ⊎_elim (λ t. none_left 0 used bound from link ks t (sym (cond-true (eqb link 0) _ _ t) ∙ h))
      (λ f. err_ok (cond-false (eqb link 0) _ (Err (bad_link_of from)) f) h) (cases_Bool (eqb link 0))
  walk_steps (suc n) used bound from link ks h =
      ⊎_elim (λ t. none_left (suc n) used bound from link ks t (sym (cond-true (eqb link 0) _ _ t) ∙ h))
      (λ f.
      let (right, h2) = past (ltb (word m 3) link || member link used) _ _ ks (sym (cond-false (eqb link 0) _ _ f) ∙ h) in
      let (near, once) = or_parts (ltb (word m 3) link) (member link used) right in
      let (fine, h3) = past_leaf link _ _ ks h2 in
      let (rest, is, few, more) = walk_steps n (used ++ (link ∷ [])) (greatest o m link (count_of m link)) link (next_of m link) ks h3 in
      let some = eqb-false link 0 f in
      (link ∷ rest, is ∙ append_assoc used (link ∷ []) rest, omega arith, (refl, omega arith, ltb-false (word m 3) link near, once, fine_from bound _ link fine, more)))
      (cases_Bool (eqb link 0))

  steps_end : (used : List ℕ) (from : ℕ) → 1 ≤ from → ended from used ≡ Ok (used ++ [])
  steps_end used from some = cond-false (eqb from 0) (Err (bad_link_of 0)) (Ok used) (ne_eqb from 0 (λ z. omega arith)) ∙ ap Ok (sym (append-nil used))

  steps_walk : (n : ℕ) (used : List ℕ) (bound : Option (ℕ × ℕ)) (from link : ℕ) (ks : List ℕ) → length ks ≤ n → Steps used bound from link ks → walk o m n used bound from link ≡ Ok (used ++ ks)
  steps_walk zero used bound from link [] l h = cond-true (eqb link 0) _ _ (eq-eqb link 0 h.0) ∙ steps_end used from h.1
  steps_walk (suc n) used bound from link [] l h = cond-true (eqb link 0) _ _ (eq-eqb link 0 h.0) ∙ steps_end used from h.1
  steps_walk zero used bound from link (k ∷ ks) l h = absurd (omega arith)
  steps_walk (suc n) used bound from link (k ∷ ks) l (is, some, near, once, fine, more) =
      rw is (cond-false (eqb k 0) _ _ (ne_eqb k 0 (λ z. omega arith)) ∙ cond-false _ _ _ (or_from _ _ (le-ltb (word m 3) k near) once)
      ∙ ap (λ f. checked k f (walk o m n (used ++ (k ∷ [])) (greatest o m k (count_of m k)) k (next_of m k))) (fine_to bound _ k fine)
      ∙ steps_walk n (used ++ (k ∷ [])) (greatest o m k (count_of m k)) k (next_of m k) ks (omega arith) more ∙ ap Ok (append_assoc used (k ∷ []) ks))

pub unlike : (a b : ℕ) → eqb a b ≡ false → eqb b a ≡ false
unlike a b h = ne_eqb b a (λ e. eqb-false a b h (sym e))

-- none of the second list is in the first
abbrev pub Apart : List ℕ → List ℕ → Type 0
Apart used [] = Unit {0}
Apart used (k ∷ ks) = (member k used ≡ false) × Apart used ks

member_split : (x k : ℕ) (used : List ℕ) → member x (used ++ (k ∷ [])) ≡ false → (member x used ≡ false) × (eqb x k ≡ false)
member_split x k [] h = (refl, (or_parts (eqb x k) false h).0)
member_split x k (y ∷ ys) h =
    let (here, there) = or_parts (eqb x y) _ h in
    let (more, last) = member_split x k ys there in
    (or_from _ _ here more, last)

member_join : (x k : ℕ) (used : List ℕ) → member x used ≡ false → eqb x k ≡ false → member x (used ++ (k ∷ [])) ≡ false
member_join x k [] h e = or_from _ _ e refl
member_join x k (y ∷ ys) h e = let (here, there) = or_parts (eqb x y) _ h in or_from _ _ here (member_join x k ys there e)

apart_split : (used : List ℕ) (k : ℕ) (ks : List ℕ) → Apart (used ++ (k ∷ [])) ks → Apart used ks × (member k ks ≡ false)
apart_split used k [] h = (tt, refl)
apart_split used k (x ∷ xs) h =
    let (more, not_in) = apart_split used k xs h.1 in
    let (free, other) = member_split x k used h.0 in
    ((free, more), or_from _ _ (unlike x k other) not_in)

apart_join : (used : List ℕ) (k : ℕ) (ks : List ℕ) → Apart used ks → member k ks ≡ false → Apart (used ++ (k ∷ [])) ks
apart_join used k [] h e = tt
apart_join used k (x ∷ xs) h e =
    let (other, more) = or_parts (eqb k x) _ e in
    (member_join x k used h.0 (unlike k x other), apart_join used k xs h.1 more)

apart_none : (ks : List ℕ) → Apart [] ks
apart_none [] = tt
apart_none (k ∷ ks) = (refl, apart_none ks)

module _ (o : WordKind) (m : List ℕ) where
  to_leads : (used : List ℕ) (bound : Option (ℕ × ℕ)) (from link : ℕ) (ks : List ℕ) → Steps o m used bound from link ks → Leads m link ks
  to_leads used bound from link [] h = h.0
  to_leads used bound from link (k ∷ ks) (is, some, near, once, fine, more) = (is, some, to_leads (used ++ (k ∷ [])) _ _ _ ks more)

  to_within : (used : List ℕ) (bound : Option (ℕ × ℕ)) (from link : ℕ) (ks : List ℕ) → Steps o m used bound from link ks → UpTo (word m 3) ks
  to_within used bound from link [] h = tt
  to_within used bound from link (k ∷ ks) (is, some, near, once, fine, more) = (near, to_within (used ++ (k ∷ [])) _ _ _ ks more)

  to_distinct : (used : List ℕ) (bound : Option (ℕ × ℕ)) (from link : ℕ) (ks : List ℕ) → Steps o m used bound from link ks → Apart used ks × Distinct ks
  to_distinct used bound from link [] h = (tt, tt)
  to_distinct used bound from link (k ∷ ks) (is, some, near, once, fine, more) =
      let (apart, distinct) = to_distinct (used ++ (k ∷ [])) _ _ _ ks more in
      let (free, not_in) = apart_split used k ks apart in
      ((once, free), (not_in, distinct))

  -- after the first, no leaf is alone
  to_fine_later : (used : List ℕ) (bound : Option (ℕ × ℕ)) (from link : ℕ) (ks : List ℕ) → 1 ≤ from → Steps o m used bound from link ks → AllFine o m false bound ks
  to_fine_later used bound from link [] l h = tt
  to_fine_later used bound from link (k ∷ ks) l (is, some, near, once, fine, more) =
      (rw (and_left _ (eqb (next_of m k) 0) (ne_eqb from 0 (λ z. omega arith))) at fine, to_fine_later (used ++ (k ∷ [])) _ k _ ks some more)

  to_fine : (used : List ℕ) (bound : Option (ℕ × ℕ)) (link : ℕ) (ks : List ℕ) → Steps o m used bound 0 link ks → AllFine o m (lone ks) bound ks
  to_fine used bound link [] h = tt
  to_fine used bound link (k ∷ []) (is, some, near, once, fine, (end, _)) = (rw (eq-eqb (next_of m k) 0 end) at fine, tt)
  to_fine used bound link (k ∷ l ∷ ks) (is, some, near, once, fine, more) =
      (rw (ne_eqb (next_of m k) 0 (λ z. let p = more.0 in let q = more.1 in omega arith)) at fine, to_fine_later _ _ k _ (l ∷ ks) some more)

  later_steps : (used : List ℕ) (bound : Option (ℕ × ℕ)) (from link : ℕ) (ks : List ℕ) → 1 ≤ from → Leads m link ks → UpTo (word m 3) ks → Apart used ks → Distinct ks → AllFine o m false bound ks → Steps o m used bound from link ks
  later_steps used bound from link [] l leads within apart distinct fine = (leads, l)
  later_steps used bound from link (k ∷ ks) l leads within apart distinct fine = (
    leads.0,
    leads.1,
    within.0,
    apart.0,
    rw (and_left _ (eqb (next_of m k) 0) (ne_eqb from 0 (λ z. omega arith))) fine.0,
    later_steps (used ++ (k ∷ [])) _ k _ ks leads.1 leads.2 within.1 (apart_join used k ks apart.1 distinct.0) distinct.1 fine.1,
  )

  first_alone : (k : ℕ) (ks : List ℕ) → Leads m (next_of m k) ks → eqb (next_of m k) 0 ≡ lone (k ∷ ks)
  first_alone k [] h = eq-eqb (next_of m k) 0 h
  first_alone k (l ∷ ks) h = ne_eqb (next_of m k) 0 (λ z. let p = h.0 in let q = h.1 in omega arith)

  rest_fine : (k : ℕ) (ks : List ℕ) (bound : Option (ℕ × ℕ)) → AllFine o m (lone (k ∷ ks)) bound ks → AllFine o m false bound ks
  rest_fine k [] bound h = tt
  rest_fine k (l ∷ ks) bound h = h

  from_steps : (link : ℕ) (ks : List ℕ) → 0 < length ks → Leads m link ks → UpTo (word m 3) ks → Distinct ks → AllFine o m (lone ks) None ks → Steps o m [] None 0 link ks
  from_steps link [] l leads within distinct fine = absurd (omega arith)
  from_steps link (k ∷ ks) l leads within distinct fine = (
    leads.0,
    leads.1,
    within.0,
    refl,
    rw (first_alone k ks leads.2) fine.0,
    later_steps (k ∷ []) _ k _ ks leads.1 leads.2 within.1 (apart_join [] k ks (apart_none ks) distinct.0) distinct.1 (rest_fine k ks _ fine.1),
  )

  some_steps : (bound : Option (ℕ × ℕ)) (link : ℕ) (ks : List ℕ) → Steps o m [] bound 0 link ks → 0 < length ks
  some_steps bound link [] h = omega (arith, h.1)
  some_steps bound link (k ∷ ks) h = omega arith

  pub opens_from : (ks : List ℕ) → open_answer o m ≡ Ok ks → Opens o m ks
  opens_from ks h =
      let (long, h1) = past (ltb (length m) 152) (plain WrongLength) _ ks h in
      let (mark, h2) = past (not (eqb (word m 0) 30366)) (plain WrongMark) _ ks h1 in
      let (code, h3) = past (not (eqb (word m 1) o.code)) (plain OtherKind) _ ks h2 in
      let (leaves, h4) = past (ltb (word m 3) 2 || ltb 64 (word m 3)) (plain LeafCount) _ ks h3 in
      let (fits, h5) = past (ltb (length m) (8 + 72 * word m 3)) (plain WrongLength) _ ks h4 in
      let (least, most) = or_parts (ltb (word m 3) 2) _ leaves in
      let (rest, is, few, steps) = walk_steps o m (word m 3 - 1) [] None 0 (word m 2) ks h5 in
      let at_least = ltb-false (word m 3) 2 least in
      record {
        long = ltb-false (length m) 152 long;
        mark = eqb-true (word m 0) 30366 (not-false _ mark);
        code = eqb-true (word m 1) o.code (not-false _ code);
        least = at_least;
        most = ltb-false 64 (word m 3) most;
        fits = ltb-false (length m) (8 + 72 * word m 3) fits;
        some = rw is (some_steps None (word m 2) rest steps);
        spare = rw is (omega arith);
        leads = rw is (to_leads [] None 0 (word m 2) rest steps);
        within = rw is (to_within [] None 0 (word m 2) rest steps);
        distinct = rw is (to_distinct [] None 0 (word m 2) rest steps).1;
        fine = rw is (to_fine [] None (word m 2) rest steps);
      }

  pub opens_to : (ks : List ℕ) → Opens o m ks → open_answer o m ≡ Ok ks
  opens_to ks h =
      cond-false _ _ _ (le-ltb (length m) 152 h.long)
      ∙ cond-false _ _ _ (not_from_true _ (eq-eqb (word m 0) 30366 h.mark))
      ∙ cond-false _ _ _ (not_from_true _ (eq-eqb (word m 1) o.code h.code))
      ∙ cond-false _ _ _ (or_from _ _ (le-ltb (word m 3) 2 h.least) (le-ltb 64 (word m 3) h.most))
      ∙ cond-false _ _ _ (le-ltb (length m) (8 + 72 * word m 3) h.fits)
      ∙ steps_walk o m (word m 3 - 1) [] None 0 (word m 2) ks (omega arith) (from_steps (word m 2) ks h.some h.leads h.within h.distinct h.fine)

pub opening_holds : OpeningIs
opening_holds o m ks = (opens_from o m ks, opens_to o m ks)
