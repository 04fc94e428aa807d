-- An append is a turn: what it spares, and what the words open to once it is done.
use Rattle.std.proofs.Common.{◌≡◌, ℕ, ◌+◌, ◌*◌, ◌<◌, ◌≤◌, Bool, true, false, ◌&&◌, T, eqb, ltb, leb, List, [], ◌∷◌, ◌++◌, length, None, Ok, Option, refl, ◌∙◌, inl, inr, ⊎_elim, arith}
use Rattle.std.proofs.lemmas.Bool.{cases_lt, cases_order, and_parts, and_from, or_cases, or_parts, or_left, or_right, le-leb, lt-ltb, ltb-true, leb-true, eqb-false}
use Rattle.keys.specs.InWords.{WordKind, WordOrdered}
use Rattle.leaves.specs.Layout.{word, leaf_at, slot_at, next_of, count_of}
use Rattle.leaves.specs.Opening.{greatest, member, open_answer}
use Rattle.writes.specs.Writes.{Proper, cost, single}
use Rattle.writes.specs.Laws.{Guards}
use Rattle.writes.proofs.Places.{cost_append}
use Rattle.books.specs.Footprint.{book, in_leaf, in_leaves, footprint}
use Rattle.books.specs.Opens.{Leads, UpTo, Distinct, AllFine, lone, Opens}
use Rattle.books.proofs.FootprintLaws.{holds, SameLeaves}
use Rattle.books.proofs.OpensLaws.{opens_from, opens_to, unlike}
use Rattle.books.proofs.QuestionLaws.{linked_is}
use Rattle.appends.specs.Append.{slot_lines, raised, append_lines, all_applied, Appendable, Appends, AppendCost}
use Rattle.appends.proofs.AppendWords.{Clear, appended, slots_spare, slots_proper, new_length, new_else, new_count, new_stand, new_older, new_next, new_form, new_other}
use Rattle.appends.proofs.AppendBook.{Grown, grown_all, grown_book}

pub told : (b : Bool) → T b → b ≡ true
told true h = refl
told false h = absurd h

-- leaves that lie inside, with slot_lines that do
abbrev pub Sized : List ℕ → List ℕ → Type 0
Sized m [] = Unit {0}
Sized m (k ∷ ks) = (1 ≤ k) × (k ≤ word m 3) × (count_of m k ≤ 16) × Sized m ks

pub sized : (o : WordKind) (m : List ℕ) (alone : Bool) (bound : Option (ℕ × ℕ)) (link : ℕ) (ks : List ℕ) → Leads m link ks → UpTo (word m 3) ks → AllFine o m alone bound ks → Sized m ks
sized o m alone bound link [] l u f = tt
sized o m alone bound link (k ∷ ks) l u f = (l.1, u.0, f.0.few, sized o m alone (greatest o m k (count_of m k)) (next_of m k) ks l.2 u.1 f.1)

pub sized_parts : (m pre : List ℕ) (k : ℕ) (post : List ℕ) → Sized m (pre ++ k ∷ post) → Sized m pre × (1 ≤ k) × (k ≤ word m 3) × Sized m post
sized_parts m [] k post h = (tt, h.0, h.1, h.3)
sized_parts m (j ∷ pre) k post h = let (a, b, c, d) = sized_parts m pre k post h.3 in ((h.0, h.1, h.2, a), b, c, d)

-- a leaf of a list of distinct ones is not before or after itself
member_at : (x : ℕ) (pre : List ℕ) (k : ℕ) (post : List ℕ) → member x (pre ++ k ∷ post) ≡ false → eqb x k ≡ false
member_at x [] k post h = (or_parts (eqb x k) _ h).0
member_at x (j ∷ pre) k post h = member_at x pre k post (or_parts (eqb x j) _ h).1

pub distinct_parts : (pre : List ℕ) (k : ℕ) (post : List ℕ) → Distinct (pre ++ k ∷ post) → (member k pre ≡ false) × (member k post ≡ false)
distinct_parts [] k post h = (refl, h.0)
distinct_parts (j ∷ pre) k post h =
    let (a, b) = distinct_parts pre k post h.1 in
    (rw (unlike j k (member_at j pre k post h.0)) a, b)

pub leads_same : (a b : List ℕ) (link : ℕ) (ks : List ℕ) → SameLeaves a b ks → Leads b link ks → Leads a link ks
leads_same a b link [] same h = h
leads_same a b link (k ∷ ks) same h = (h.0, h.1, rw same.0.next (leads_same a b (next_of b k) ks same.1 h.2))

leads_through : (a b : List ℕ) (link : ℕ) (pre : List ℕ) (k : ℕ) (post : List ℕ) → SameLeaves a b pre → next_of a k ≡ next_of b k → SameLeaves a b post → Leads b link (pre ++ k ∷ post) → Leads a link (pre ++ k ∷ post)
leads_through a b link [] k post pre_same e post_same h = (h.0, h.1, rw e (leads_same a b (next_of b k) post post_same h.2))
leads_through a b link (j ∷ pre) k post pre_same e post_same h = (h.0, h.1, rw pre_same.0.next (leads_through a b (next_of b j) pre k post pre_same.1 e post_same h.2))

module _ (o : WordKind) (ordered : WordOrdered o) (m pre : List ℕ) (k : ℕ) (post : List ℕ) (w : ℕ × ℕ) (xs : List (ℕ × ℕ)) (fits : Appendable o m pre k post w xs) where
  opens : Opens o m (pre ++ k ∷ post)
  opens = opens_from o m (pre ++ k ∷ post) fits.belongs.opens

  all_sized : Sized m (pre ++ k ∷ post)
  all_sized = sized o m _ None (word m 2) (pre ++ k ∷ post) opens.leads opens.within opens.fine

  first : 1 ≤ k
  first = (sized_parts m pre k post all_sized).1

  inside : 8 + 72 * k ≤ length m
  inside = let near = (sized_parts m pre k post all_sized).2 in let all = opens.fits in omega arith

  new_same : (js : List ℕ) → Sized m js → member k js ≡ false → SameLeaves (appended m k w xs) m js
  new_same [] h n = tt
  new_same (j ∷ js) h n =
      let (other, more) = or_parts (eqb k j) _ n in
      (new_other m k w xs first inside fits.room j h.0 (eqb-false k j other) h.2, new_same js h.3 more)

  pub pre_same : SameLeaves (appended m k w xs) m pre
  pre_same = new_same pre (sized_parts m pre k post all_sized).0 (distinct_parts pre k post opens.distinct).0

  pub post_same : SameLeaves (appended m k w xs) m post
  post_same = new_same post (sized_parts m pre k post all_sized).3 (distinct_parts pre k post opens.distinct).1

  pub grown : Grown (appended m k w xs) m k w xs
  grown = record {
    next = new_next m k w xs first inside fits.room;
    count = new_count m k w xs first inside fits.room;
    form = new_form m k w xs first inside fits.room;
    older = new_older m k w xs first inside fits.room;
    stand = new_stand m k w xs first inside fits.room;
  }

  head : (i : ℕ) → i < 4 → word (appended m k w xs) i ≡ word m i
  head i h = new_else m k w xs first inside fits.room i (inl (omega arith)) (λ e. omega arith)

  pub new_opens : open_answer o (appended m k w xs) ≡ Ok (pre ++ k ∷ post)
  new_opens =
      let h = opens in
      let long = new_length m k w xs first inside fits.room in
      let leaves = head 3 (omega arith) in
      opens_to o (appended m k w xs) (pre ++ k ∷ post) (record {
        long = rw long h.long;
        mark = head 0 (omega arith) ∙ h.mark;
        code = head 1 (omega arith) ∙ h.code;
        least = rw leaves h.least;
        most = rw leaves h.most;
        fits = rw (long, leaves) h.fits;
        some = h.some;
        spare = rw leaves h.spare;
        leads = rw (head 2 (omega arith)) (leads_through (appended m k w xs) m (word m 2) pre k post pre_same grown.next post_same h.leads);
        within = rw leaves h.within;
        distinct = h.distinct;
        fine = grown_all o ordered (appended m k w xs) m k w xs grown fits.valid fits.some fits.room fits.follow (lone (pre ++ k ∷ post)) None pre post pre_same post_same fits.belongs.above fits.belongs.below refl h.fine;
      })

  pub new_book : book o (appended m k w xs) ≡ all_applied o w xs (book o m)
  new_book =
      rw (linked_is o ordered (appended m k w xs) (pre ++ k ∷ post) new_opens, linked_is o ordered m (pre ++ k ∷ post) fits.belongs.opens)
      (grown_book o ordered (appended m k w xs) m k w xs pre post grown pre_same post_same fits.belongs.above fits.belongs.below)

  leaf_clear : (j i : ℕ) → 1 ≤ j → count_of m j ≤ 16 → in_leaf m j i ≡ true → Clear k (count_of m k) (count_of m k + length xs) i
  leaf_clear j i some few h =
      let r = fits.room in
      let one = first in
      ⊎_elim
      (λ head.
      let (a, b) = and_parts (leb (leaf_at j) i) _ head in
      let a' = leb-true (leaf_at j) i a in
      let b' = ltb-true i (leaf_at j + 3) b in
      ⊎_elim (λ low. inr (omega arith)) (λ high. inl (omega arith)) (cases_lt k j))
      (λ slot.
      let (a, b) = and_parts (leb (slot_at j 0) i) _ slot in
      let a' = leb-true (slot_at j 0) i a in
      let b' = ltb-true i (slot_at j (count_of m j)) b in
      ⊎_elim (λ same. inl (rw (← same) at b')) (⊎_elim (λ low. inr (omega arith)) (λ high. inl (omega arith))) (cases_order k j))
      (or_cases (leb (leaf_at j) i && ltb i (leaf_at j + 3)) _ h)

  leaves_clear : (js : List ℕ) (i : ℕ) → Sized m js → in_leaves m js i ≡ true → Clear k (count_of m k) (count_of m k + length xs) i
  leaves_clear [] i s h = let z : ◌≡◌ {A = ℕ} 0 1 = cc in absurd (omega arith)
  leaves_clear (j ∷ js) i s h = ⊎_elim (leaf_clear j i s.0 s.2) (leaves_clear js i s.3) (or_cases (in_leaf m j i) _ h)

  count_in : (js : List ℕ) → in_leaves m (js ++ k ∷ post) (leaf_at k + 1) ≡ true
  count_in [] = or_left _ _ (or_left _ _ (and_from _ _ (le-leb (leaf_at k) (leaf_at k + 1) (omega arith)) (lt-ltb (leaf_at k + 1) (leaf_at k + 3) (omega arith))))
  count_in (j ∷ js) = or_right (in_leaf m j (leaf_at k + 1)) _ (count_in js)

  pub guards : Guards (footprint m) (slot_lines k (count_of m k) w xs) (raised k (count_of m k) xs)
  guards =
      let is = linked_is o ordered m (pre ++ k ∷ post) fits.belongs.opens in
      record {
        spared = λ i t. slots_spare k w (count_of m k) xs i (⊎_elim
            (λ low. let l = ltb-true i 4 low in inl (omega arith))
            (λ leaves. leaves_clear (pre ++ k ∷ post) i all_sized (rw is at leaves))
            (or_cases (ltb i 4) _ (told (footprint m i) t)));
        committed = holds _ (or_right (ltb (leaf_at k + 1) 4) _ (rw is (count_in pre)));
      }

  pub proper : Proper (length m) (append_lines k (count_of m k) w xs)
  proper =
      let r = fits.room in
      let i = inside in
      let f = first in
      slots_proper k w (length m) (count_of m k) xs (raised k (count_of m k) xs) (omega arith) (omega arith)

pub appends_hold : Appends
appends_hold o ordered m pre k post w xs fits =
    let some = fits.some in
    record {
      guards = guards o ordered m pre k post w xs fits;
      proper = proper o ordered m pre k post w xs fits;
      differs = λ e. omega arith;
      done = (new_opens o ordered m pre k post w xs fits, new_book o ordered m pre k post w xs fits);
    }

slots_cost : (k n : ℕ) (w : ℕ × ℕ) (xs : List (ℕ × ℕ)) → cost (slot_lines k n w xs) ≡ 5 * length xs
slots_cost k n w [] = refl
slots_cost k n w (x ∷ xs) = let more = slots_cost k (n + 1) w xs in omega arith

pub append_cost_holds : AppendCost
append_cost_holds k n w xs =
    let both = cost_append (slot_lines k n w xs) (single (raised k n xs) ∷ []) in
    let slots = slots_cost k n w xs in omega arith
