-- Going from leaf to leaf in the order of the index, and what the leaves from a place on tell.
use Rattle.std.proofs.Common.{◌≡◌, ℕ, zero, suc, ◌+◌, ◌*◌, ◌<◌, ◌≤◌, Bool, true, List, [], ◌∷◌, length, drop, get_or, is_some, Some, None, Ok, Err, Option, Result, sym, refl, ap, ◌∙◌, subst, zero-add, arith}
use Rattle.std.proofs.lemmas.Bool.Decides.{nat_tests}
use Rattle.std.proofs.lemmas.Bool.{cond-true}
use Rattle.std.proofs.lemmas.List.{drop_at, drop_more, drop_all, length-map}
use Rattle.refusal.specs.declared.Refusal.{Refusal}
use Rattle.keys.specs.InWords.{WordKind, WordOrdered}
use Rattle.leaves.specs.declared.leaf.Pair.{Pair}
use Rattle.leaves.specs.Asking.{count_answer, counted, granted}
use Rattle.leaves.specs.Pairs.{first_after, pairs}
use Rattle.leaves.proofs.RunLaws.{length_applied}
use Rattle.leaves.specs.Layout.{count_of, element, next_of, word}
use Rattle.leaves.specs.Opening.{greatest, open_answer}
use Rattle.books.specs.Opens.{AllFine, Leads, UpTo, lone}
use Rattle.books.specs.Questions.{first_of, or_else, pairs_in_all}
use Rattle.books.proofs.BoundLaws.{locates}
use Rattle.books.proofs.OpensLaws.{opens_from}
use Rattle.books.proofs.QuestionLaws.{counts_hold, nexts_hold}
use Rattle.index.specs.declared.node.Entry.{Entry}
use Rattle.index.specs.declared.table.Index.{Index}
use Rattle.index.specs.declared.table.Place.{Place}
use Rattle.index.specs.Meaning.{grouped, listed}
use Rattle.index.specs.Nodes.{bounds, entry, numbers}
use Rattle.index.specs.Places.{place_after, place_at, position, within}
use Rattle.index.specs.Search.{concat, front}
use Rattle.index.proofs.ListLaws.{offset_within}
use Rattle.index.proofs.PlaceLaws.{after_parts, every_number, numbered, within_of, within_parts}
use Rattle.tree.proofs.LocatedLaws.{counts, never_ok, number_at, search_is}
use Rattle.tree.specs.declared.logbook.State.{State}
use Rattle.tree.specs.declared.logbook.State.TheVariants.{Blank, Open, Dark}
use Rattle.tree.specs.Walk.{First, Located, onwards, stepped}
use Rattle.tree.specs.Sound.{Sound}
use Rattle.tree.specs.Telling.{asked, indexed, next_answer, paired_or, pairs_answer}

-- A place, if there is one, is one of an open index.
abbrev pub Standing : State → Option Place → Type 0
Standing s None = Unit {0}
Standing Blank (Some p) = ⊥
Standing (Open x) (Some p) = within (grouped x) p ≡ true
Standing Dark (Some p) = ⊥

-- The leaves from a place of some groups on.
abbrev rest : List (List Entry) → Option Place → List ℕ
rest gs None = []
rest gs (Some p) = drop (position gs p) (numbers (concat gs))

rest_at : (gs : List (List Entry)) (n : ℕ) (q : Option Place) → place_at gs n ≡ q → rest gs q ≡ drop n (numbers (concat gs))
rest_at gs n None e =
    let no = sym (every_number gs n) ∙ ap is_some e in
    sym (drop_all n (numbers (concat gs)) (rw length-map (grind (arith, nat_tests))))
rest_at gs n (Some q) e = ap (λ i. drop i (numbers (concat gs))) (numbered gs n q e).1

rest_is : (gs : List (List Entry)) (p : Place) → within gs p ≡ true → rest gs (place_after gs p) ≡ drop (position gs p + 1) (numbers (concat gs))
rest_is gs p t = ap (rest gs) (cond-true (within gs p) (place_at gs (position gs p + 1)) None t) ∙ rest_at gs (position gs p + 1) (place_at gs (position gs p + 1)) refl

rest_more : (gs : List (List Entry)) (p : Place) → within gs p ≡ true
    → rest gs (Some p) ≡ (get_or (concat gs) (position gs p) (entry 0 (0, 0))).to ∷ rest gs (place_after gs p)
rest_more gs p t =
    let w = within_parts gs p t in
    let n = position gs p in
    drop_more (numbers (concat gs)) n 0 (rw length-map (offset_within gs p.group p.slot w.0 w.1))
    ∙ ap (λ k. k ∷ drop (n + 1) (numbers (concat gs))) (sym (number_at (concat gs) n))
    ∙ ap (λ ks. (get_or (concat gs) n (entry 0 (0, 0))).to ∷ ks) (sym (rest_is gs p t))

onwards_is : (x : Index) (p : Option Place) → onwards (Open x) p ≡ rest (grouped x) p
onwards_is x None = refl
onwards_is x (Some p) = refl

standing_after : (x : Index) (p : Place) (q : Option Place) → place_after (grouped x) p ≡ q → Standing (Open x) q
standing_after x p None e = tt
standing_after x p (Some q) e = within_of (grouped x) q (after_parts (grouped x) p q e).1

stepped_is : (x : Index) (p : Place) → within (grouped x) p ≡ true
    → stepped (Open x) p ≡ Ok ((get_or (listed x) (position (grouped x) p) (entry 0 (0, 0))).to, place_after (grouped x) p)
stepped_is x p t = cond-true (within (grouped x) p) _ _ t

same_step : (a b : ℕ × Option Place) → ◌≡◌ {A = Result (ℕ × Option Place) Refusal} (Ok a) (Ok b) → a ≡ b
same_step a b e = cc

-- The leaf at a place is the first of those from the place on; the others are those from the next place on.
pub step_on : (s : State) (p : Place) (leaf : ℕ) (after : Option Place) → Standing s (Some p) → Ok (leaf, after) ≡ stepped s p
    → (onwards s (Some p) ≡ leaf ∷ onwards s after) × Standing s after
step_on Blank p leaf after h e = absurd h
step_on (Open x) p leaf after h e =
    let same = same_step _ _ (e ∙ stepped_is x p h) in
    let leaf_is = ap (λ (a : ℕ × Option Place). a.0) same in
    let after_is = ap (λ (a : ℕ × Option Place). a.1) same in (
      rest_more (grouped x) p h ∙ ap (λ k. k ∷ rest (grouped x) (place_after (grouped x) p)) (sym leaf_is)
          ∙ ap (λ ks. leaf ∷ ks) (ap (rest (grouped x)) (sym after_is) ∙ sym (onwards_is x after)),
      standing_after x p after (sym after_is),
    )
step_on Dark p leaf after h e = absurd h

pub step_granted : {A : Type 0} (s : State) (p : Place) (e : Refusal) → Standing s (Some p) → Err e ≡ stepped s p → A
step_granted Blank p e h r = absurd h
step_granted (Open x) p e h r = never_ok e (sym (stepped_is x p h) ∙ sym r)
step_granted Dark p e h r = absurd h

-- Where a key belongs, and the first leaf, there is a place.
pub stands_located : (o : WordKind) (s : State) (w : ℕ × ℕ) (p : Place) → Located o s w p → Standing s (Some p)
stands_located o Blank w p h = h
stands_located o (Open x) w p h = h.0
stands_located o Dark w p h = h

pub stands_first : (s : State) (p : Place) → First s p → Standing s (Some p)
stands_first Blank p h = h
stands_first (Open x) p h = h.0
stands_first Dark p h = h

-- What is not open refuses.
pub refused : {X : Type 0} (s : State) (e : Refusal) (r : Result X Refusal) → indexed s ≡ Err e → Err e ≡ asked s r
refused Blank e r h = cc
refused (Open x) e r h = never_ok e h
refused Dark e r h = cc

-- Each leaf can be asked.
abbrev pub Counted : List ℕ → List ℕ → Type 0
Counted m [] = Unit {0}
Counted m (k ∷ ks) = (count_answer m k ≡ Ok (count_of m k)) × Counted m ks

all_counted : (o : WordKind) (m : List ℕ) (link n : ℕ) (alone : Bool) (bound : Option (ℕ × ℕ)) (ks : List ℕ) → Leads m link ks → UpTo n ks → AllFine o m alone bound ks → n ≤ 64 → 8 + 72 * n ≤ length m → Counted m ks
all_counted o m link n alone bound [] leads within fine most fits = tt
all_counted o m link n alone bound (k ∷ ks) leads within fine most fits = (
  counts m k leads.1 (omega (arith, within.0)) (omega (arith, within.0)) fine.0.few,
  all_counted o m (next_of m k) n alone (greatest o m k (count_of m k)) ks leads.2 within.1 fine.1 most fits,
)

pub counted_drop : (m : List ℕ) (n : ℕ) (ks : List ℕ) → Counted m ks → Counted m (drop n ks)
counted_drop m zero ks h = h
counted_drop m (suc n) [] h = tt
counted_drop m (suc n) (k ∷ ks) h = counted_drop m n ks h.1

counted_rest : (m : List ℕ) (gs : List (List Entry)) (p : Option Place) → Counted m (numbers (concat gs)) → Counted m (rest gs p)
counted_rest m gs None h = tt
counted_rest m gs (Some p) h = counted_drop m (position gs p) (numbers (concat gs)) h

pub sound_all : (o : WordKind) (m ks : List ℕ) → open_answer o m ≡ Ok ks → Counted m ks
sound_all o m ks h =
    let opens = opens_from o m ks h in
    all_counted o m (word m 2) (word m 3) (lone ks) None ks opens.leads opens.within opens.fine opens.most opens.fits

pub sound_counted : (o : WordKind) (m : List ℕ) (s : State) (p : Option Place) → Sound o m s → Counted m (onwards s p)
sound_counted o m Blank p h = tt
sound_counted o m (Open x) p h = subst (Counted m) (sym (onwards_is x p)) (counted_rest m (grouped x) p (sound_all o m (numbers (listed x)) h.opens))
sound_counted o m Dark p h = tt

-- What next and pairs tell of a sound logbook, from the leaves of the index.
pub next_from : (o : WordKind) → WordOrdered o → (m : List ℕ) (s : State) (w : ℕ × ℕ) (p : Place) → Located o s w p → Sound o m s → paired_or (first_of o m w (onwards s (Some p))) ≡ next_answer o m s w
next_from o ordered m Blank w p at h = absurd at
next_from o ordered m (Open x) w p at h =
    let ks = numbers (listed x) in
    let l = locates o ordered m ks (front (bounds (listed x))) w h.bounded in
    let place : length l.pre ≡ position (grouped x) p = l.place ∙ sym (search_is o w (bounds (listed x))) ∙ sym (at.1 h.ascending) in
    let here : drop (position (grouped x) p) ks ≡ l.leaf ∷ l.post = ap (drop (position (grouped x) p)) l.leaves ∙ drop_at l.pre (l.leaf ∷ l.post) (position (grouped x) p) place in
    let tells = nexts_hold o ordered m l.pre l.leaf l.post w (record { opens = h.opens ∙ ap Ok l.leaves; above = l.above; below = l.below }) in
    ap paired_or (ap (first_of o m w) here ∙ sym tells)
next_from o ordered m Dark w p at h = absurd at

pub pairs_from : (o : WordKind) → WordOrdered o → (m : List ℕ) (s : State) (p : Place) → First s p → Sound o m s → Ok (0 + pairs_in_all o m (onwards s (Some p))) ≡ pairs_answer o m s
pairs_from o ordered m Blank p at h = absurd at
pairs_from o ordered m (Open x) p at h =
    ap Ok (zero-add (pairs_in_all o m (drop (position (grouped x) p) (numbers (listed x))))) ∙ ap (λ (n : ℕ). Ok (pairs_in_all o m (drop n (numbers (listed x))))) at.1 ∙ ap Ok (sym (counts_hold o ordered m (numbers (listed x)) h.opens))
pairs_from o ordered m Dark p at h = absurd at

-- At a place of a sound logbook the leaf is never refused, and what it tells is what the leaves from the place on begin with.
module _ (o : WordKind) (m : List ℕ) (s : State) (p : Place) (leaf : ℕ) (after : Option Place) (stands : Standing s (Some p)) (step : Ok (leaf, after) ≡ stepped s p) where
  here : onwards s (Some p) ≡ leaf ∷ onwards s after
  here = (step_on s p leaf after stands step).0

  said : {X : Type 0} (say : ℕ → X) (r : Result X Refusal) → Sound o m s → r ≡ counted m leaf say → r ≡ Ok (say (count_of m leaf))
  said say r sound e = e ∙ ap (λ (n : Result ℕ Refusal). granted n say) (subst (Counted m) here (sound_counted o m s (Some p) sound)).0

  pub unsaid : {X A : Type 0} (say : ℕ → X) (e : Refusal) → Sound o m s → Err e ≡ counted m leaf say → A
  unsaid say e sound r = never_ok e (sym (said say (Err e) sound r))

  first_said : (w : ℕ × ℕ) (told : Option Pair) → Sound o m s → Ok told ≡ counted m leaf (λ n. first_after o w (pairs o m leaf n))
      → paired_or (first_of o m w (onwards s (Some p))) ≡ paired_or (or_else told (first_of o m w (onwards s after)))
  first_said w told sound e =
      let is : first_after o w (pairs o m leaf (count_of m leaf)) ≡ told = let a = said (λ n. first_after o w (pairs o m leaf n)) (Ok told) sound e in cc in
      ap (λ ks. paired_or (first_of o m w ks)) here ∙ ap (λ x. paired_or (or_else x (first_of o m w (onwards s after)))) is

  pub next_found : (w : ℕ × ℕ) (pair : Pair) (all : Result Pair Refusal) → Sound o m s → paired_or (first_of o m w (onwards s (Some p))) ≡ all
      → Ok (Some pair) ≡ counted m leaf (λ n. first_after o w (pairs o m leaf n)) → Ok pair ≡ all
  next_found w pair all sound inv e = sym (first_said w (Some pair) sound e) ∙ inv

  pub next_past : (w : ℕ × ℕ) (all : Result Pair Refusal) → Sound o m s → paired_or (first_of o m w (onwards s (Some p))) ≡ all
      → Ok None ≡ counted m leaf (λ n. first_after o w (pairs o m leaf n)) → paired_or (first_of o m w (onwards s after)) ≡ all
  next_past w all sound inv e = sym (first_said w None sound e) ∙ inv

  pub pairs_more : (n got : ℕ) (all : Result ℕ Refusal) → Sound o m s → Ok (n + pairs_in_all o m (onwards s (Some p))) ≡ all
      → Ok got ≡ counted m leaf (λ n. length (pairs o m leaf n)) → Ok ((n + got) + pairs_in_all o m (onwards s after)) ≡ all
  pairs_more n got all sound inv e =
      let is : length (pairs o m leaf (count_of m leaf)) ≡ got = let a = said (λ n. length (pairs o m leaf n)) (Ok got) sound e in cc in
      let sum : n + (got + pairs_in_all o m (onwards s after)) ≡ (n + got) + pairs_in_all o m (onwards s after) = omega arith in
      sym (ap (λ ks. Ok (n + pairs_in_all o m ks)) here ∙ ap (λ k. Ok (n + (k + pairs_in_all o m (onwards s after)))) is ∙ ap Ok sum) ∙ inv

-- A leaf counts at most 16 elements, so it has no more pairs.
pub length_pairs : (o : WordKind) (m : List ℕ) (k n : ℕ) → length (pairs o m k n) ≤ n
length_pairs o m k zero = omega arith
length_pairs o m k (suc n) = omega (arith, length_pairs o m k n, length_applied o (element m k n) (pairs o m k n))

granted_few : (m : List ℕ) (k n : ℕ) → Ok n ≡ count_answer m k → n ≤ 16
granted_few m k n e = grind (arith, nat_tests)

pub few_in : (o : WordKind) (m : List ℕ) (k got : ℕ) (r : Result ℕ Refusal) → r ≡ count_answer m k → Ok got ≡ granted r (λ n. length (pairs o m k n)) → got ≤ 16
few_in o m k got (Err e) is told = never_ok e told
few_in o m k got (Ok n) is told =
    let few : n ≤ 16 = granted_few m k n is in
    let same : got ≡ length (pairs o m k n) = cc in
    omega (arith, length_pairs o m k n)

-- One turn of going on from a place: where it stands in the order of the index.
pub record Turn (s : State) (p : Option Place) (at : Place) (leaf : ℕ) (after : Option Place) : Type 0 where
  pub is : p ≡ Some at
  pub stands : Standing s (Some at)
  pub step : Ok (leaf, after) ≡ stepped s at

pub turn : (s t : State) (p : Option Place) (at : Place) (leaf : ℕ) (after : Option Place) → t ≡ s → Standing s p → p ≡ Some at → Ok (leaf, after) ≡ stepped t at → Turn s p at leaf after
turn s t p at leaf after same stands is step = record { is = is; stands = subst (Standing s) is stands; step = step ∙ ap (λ x. stepped x at) same }

pub turn_stands : (s : State) (p : Option Place) (at : Place) (leaf : ℕ) (after : Option Place) → Turn s p at leaf after → Standing s after
turn_stands s p at leaf after t = (step_on s at leaf after t.stands t.step).1

pub turn_smaller : (s : State) (p : Option Place) (at : Place) (leaf : ℕ) (after : Option Place) → Turn s p at leaf after → length (onwards s after) < length (onwards s p)
turn_smaller s p at leaf after t = let e = ap length (ap (onwards s) t.is ∙ (step_on s at leaf after t.stands t.step).0) in omega arith

-- There are at most 64 leaves.
length_drop : {X : Type 0} (n : ℕ) (xs : List X) → length (drop n xs) ≤ length xs
length_drop zero xs = omega arith
length_drop (suc n) [] = omega arith
length_drop (suc n) (x ∷ xs) = omega (arith, length_drop n xs)

few_listed : (x : Index) → length (numbers (listed x)) ≤ 64
unfolding grouped
few_listed x = rw length-map (omega (arith, x.counted))

pub few_onwards : (s : State) (p : Option Place) → length (onwards s p) ≤ 64
few_onwards Blank p = omega arith
few_onwards (Open x) None = omega arith
few_onwards (Open x) (Some p) = omega (arith, length_drop (position (grouped x) p) (numbers (listed x)), few_listed x)
few_onwards Dark p = omega arith
