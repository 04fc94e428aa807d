-- What format leaves, whole or cut off.
use Rattle.std.proofs.Common.{◌≡◌, ℕ, zero, suc, ◌+◌, ◌-◌, ◌*◌, ◌/◌, ◌<◌, ◌≤◌, Bool, true, false, cond, eqb, ltb, ◌⊎◌, List, [], ◌∷◌, ◌++◌, length, get_or, take, set, Ok, Err, sym, refl, ap, ◌∙◌, subst, inl, inr, ⊎_elim, arith, length-set, get_or-set_other, get_or-set_same}
use lib.Seq.{take-append-le}
use Rattle.std.proofs.lemmas.Bool.{cases_Bool, cases_eq, cases_lt, cond-true, cond-false, ne_eqb}
use Rattle.std.proofs.lemmas.Bool.Decides.{nat_tests}
use Rattle.refusal.specs.declared.Refusal.TheVariants.{WrongMark}
use Rattle.keys.specs.InWords.{WordKind, WordOrdered}
use Rattle.memory.specs.Meaning.{Power, endless, left, Words, size_of, Settled, picked, stored, flushed}
use Rattle.memory.proofs.Words.{tabled_at, length_tabled, is_tabled}
use Rattle.memory.proofs.Facts.{flushed_at}
use Rattle.writes.specs.Writes.{Op, store, flush, Run, done, did, all_ops, line_ops, row_stores, perform, Proper}
use Rattle.writes.specs.Laws.{Cut, Enough}
use Rattle.writes.proofs.Cuts.{short_holds, whole_holds}
use Rattle.writes.proofs.Done.{done_size, run_done, run_granted}
use Rattle.writes.proofs.Places.{row_lined}
use Rattle.writes.proofs.Steps.{first_steps_hold}
use Rattle.leaves.specs.Layout.{word, count_of}
use Rattle.leaves.specs.Opening.{open_answer, plain}
use Rattle.leaves.specs.Pairs.{pairs}
use Rattle.leaves.specs.Ascent.{all_pairs}
use Rattle.books.specs.Opens.{Opens}
use Rattle.books.specs.Format.{Empty, FormatCut, Formats, Roomy, format_writes, formatted}
use Rattle.books.proofs.OpensLaws.{opening_holds}
use Rattle.books.proofs.QuestionLaws.{linked_is}

-- A word that is live, and one that is firm too.
record Lives (m : Words) (i v : ℕ) : Type 0 where
  inside : i < size_of m
  live : get_or m.live i 0 ≡ v

record Stands (m : Words) (i v : ℕ) : Type 0 where
  inside : i < size_of m
  live : get_or m.live i 0 ≡ v
  firm : get_or m.firm i 0 ≡ v

-- An operation that stores no word i.
abbrev Other : ℕ → Op → Type 0
Other i (store s) = i ≡ s.at → ⊥
Other i (flush l) = Unit {0}

abbrev Others : ℕ → List Op → Type 0
Others i [] = Unit {0}
Others i (o ∷ os) = Other i o × Others i os

both : (b : Bool) (x y v : ℕ) → x ≡ v → y ≡ v → cond b x y ≡ v
both true x y v p q = p
both false x y v p q = q

firm_set : (t : Bool) (xs : List ℕ) (i j w v : ℕ) → (i ≡ j → ⊥) → get_or xs i 0 ≡ v → get_or (cond t (set xs j w) xs) i 0 ≡ v
firm_set true xs i j w v n e = get_or-set_other xs j i w 0 n ∙ e
firm_set false xs i j w v n e = e

stands_did : (m : Words) (o : Op) (i v : ℕ) → Other i o → Stands m i v → Stands (did m o) i v
stands_did m (store s) i v n h = record {
  inside = rw (length-set m.live s.at s.word) h.inside;
  live = get_or-set_other m.live s.at i s.word 0 n ∙ h.live;
  firm = firm_set m.through m.firm i s.at s.word v n h.firm;
}
stands_did m (flush l) i v n h = record {
  inside = h.inside;
  live = h.live;
  firm = flushed_at m l i h.inside ∙ both (eqb (i / 8) l) _ _ v h.live h.firm;
}

stands_take : (m : Words) (os : List Op) (j i v : ℕ) → Others i os → Stands m i v → Stands (done m (take j os)) i v
stands_take m [] zero i v n h = h
stands_take m [] (suc j) i v n h = h
stands_take m (o ∷ os) zero i v n h = h
stands_take m (o ∷ os) (suc j) i v n h = stands_take (did m o) os j i v n.1 (stands_did m o i v n.0 h)

stands_done : (m : Words) (os : List Op) (i v : ℕ) → Others i os → Stands m i v → Stands (done m os) i v
stands_done m [] i v n h = h
stands_done m (o ∷ os) i v n h = stands_done (did m o) os i v n.1 (stands_did m o i v n.0 h)

lives_stored : (m : Words) (i w : ℕ) → i < size_of m → Lives (stored m i w) i w
lives_stored m i w h = record { inside = rw (length-set m.live i w) h; live = get_or-set_same m.live i w 0 h }

lives_other : (m : Words) (i v j w : ℕ) → (i ≡ j → ⊥) → Lives m i v → Lives (stored m j w) i v
lives_other m i v j w n h = record { inside = rw (length-set m.live j w) h.inside; live = get_or-set_other m.live j i w 0 n ∙ h.live }

stands_flushed : (m : Words) (i v l : ℕ) → eqb (i / 8) l ≡ true → Lives m i v → Stands (flushed m l) i v
stands_flushed m i v l e h = record {
  inside = h.inside;
  live = h.live;
  firm = flushed_at m l i h.inside ∙ cond-true (eqb (i / 8) l) _ _ e ∙ h.live;
}

-- A word that is live before the rest of its line is stored stands once the line is flushed.
lives_row : (m : Words) (i v first : ℕ) (ws : List ℕ) (l : ℕ) → i < first → eqb (i / 8) l ≡ true → Lives m i v → Stands (done m (line_ops l (row_stores first ws))) i v
lives_row m i v first [] l lt e h = stands_flushed m i v l e h
lives_row m i v first (w ∷ ws) l lt e h = lives_row (stored m first w) i v (suc first) ws l (omega arith) e (lives_other m i v first w (λ same. absurd (omega arith)) h)

-- The words of a row stand once their line is flushed.
row_stands : (m : Words) (first : ℕ) (ws : List ℕ) (l k i : ℕ) → k < length ws → i ≡ first + k → i < size_of m → eqb (i / 8) l ≡ true → Stands (done m (line_ops l (row_stores first ws))) i (get_or ws k 0)
row_stands m first [] l k i lt at h e = absurd (omega arith)
row_stands m first (w ∷ ws) l zero i lt at h e =
    let here : i ≡ first = omega arith in
    rw here (lives_row (stored m first w) first w (suc first) ws l (omega arith) (rw here at e) (lives_stored m first w (rw here at h)))
row_stands m first (w ∷ ws) l (suc k) i lt at h e =
    row_stands (stored m first w) (suc first) ws l k i (omega arith) (omega arith) (rw (length-set m.live first w) h) e

-- What a cut leaves of a word that stands.
cut_stands : (m : Words) (words : List ℕ) (i v : ℕ) → Cut m words → Stands m i v → word words i ≡ v
cut_stands m words i v c h =
    ap (λ (x : List ℕ). get_or x i 0) c.1 ∙ (tabled_at (size_of m) _ i h.inside ∙ both (c.0 i) _ _ v h.live h.firm)

cut_length : (m : Words) (words : List ℕ) → Cut m words → length words ≡ size_of m
cut_length m words c = ap length c.1 ∙ length_tabled (size_of m) _

unmarked : (o : WordKind) (words : List ℕ) → 152 ≤ length words → (word words 0 ≡ 30366 → ⊥) → open_answer o words ≡ Err (plain WrongMark)
unmarked o words long n = let f = ne_eqb (word words 0) 30366 n in let g : ltb (length words) 152 ≡ false = grind (arith, nat_tests) in cc

-- The head of an empty book, and the first words of its leaf.
record Head (o : WordKind) (leaves : ℕ) (words : List ℕ) : Type 0 where
  mark : word words 0 ≡ 30366
  code : word words 1 ≡ o.code
  first : word words 2 ≡ 1
  count : word words 3 ≡ leaves
  next : word words 8 ≡ 0
  elements : word words 9 ≡ 0
  form : word words 10 ≡ 0

empty_opens : (o : WordKind) (leaves : ℕ) (words : List ℕ) → 2 ≤ leaves → leaves ≤ 64 → 8 + 72 * leaves ≤ length words → Head o leaves words → Opens o words (1 ∷ [])
empty_opens o leaves words least most fits h = record {
  long = omega arith;
  mark = h.mark;
  code = h.code;
  least = omega (arith, h.count);
  most = omega (arith, h.count);
  fits = omega (arith, h.count);
  some = omega arith;
  spare = omega (arith, h.count);
  leads = (h.first, omega arith, h.next);
  within = (omega (arith, h.count), tt);
  distinct = (refl, tt);
  fine = (record { few = omega (arith, h.elements); form = h.form; some = inl refl; each = λ s lt. absurd (omega (arith, h.elements)) }, tt);
}

no_pairs : (o : WordKind) (words : List ℕ) (n : ℕ) → n ≡ 0 → pairs o words 1 n ++ [] ≡ []
no_pairs o words zero e = refl
no_pairs o words (suc n) e = absurd (omega arith)

empty_book : (o : WordKind) → WordOrdered o → (leaves : ℕ) (words : List ℕ) → 2 ≤ leaves → leaves ≤ 64 → 8 + 72 * leaves ≤ length words → Head o leaves words → Empty o words
empty_book o ordered leaves words least most fits h =
    let opens = (opening_holds o words (1 ∷ [])).1 (empty_opens o leaves words least most fits h) in
    record { opens = opens; none = ap (all_pairs o words) (linked_is o ordered words (1 ∷ []) opens) ∙ no_pairs o words (count_of words 1) h.elements }

-- Format step by step, on any memory with room.
module _ (o : WordKind) (ordered : WordOrdered o) (m : Words) (leaves : ℕ) (room : Roomy m leaves) where
  abbrev unmark : List Op
  unmark = line_ops 0 (row_stores 0 (0 ∷ []))

  abbrev blank_leaf : List Op
  blank_leaf = line_ops 1 (row_stores 8 (0 ∷ 0 ∷ 0 ∷ []))

  abbrev head : List Op
  head = line_ops 0 (row_stores 1 (o.code ∷ 1 ∷ leaves ∷ []))

  abbrev mark : List Op
  mark = line_ops 0 (row_stores 0 (30366 ∷ []))

  -- The memory once the mark is gone, the leaf is blank, and the head is there.
  abbrev gone : Words
  gone = done m unmark

  abbrev blanked : Words
  blanked = done gone blank_leaf

  abbrev headed : Words
  headed = done blanked head

  inside : (n : Words) (i : ℕ) → size_of n ≡ size_of m → i < 152 → i < size_of n
  inside n i e lt = rw e (omega (arith, room.least, room.fits))

  gone_size : size_of gone ≡ size_of m
  gone_size = done_size m unmark

  blanked_size : size_of blanked ≡ size_of m
  blanked_size = done_size gone blank_leaf ∙ gone_size

  headed_size : size_of headed ≡ size_of m
  headed_size = done_size blanked head ∙ blanked_size

  gone_stands : Stands gone 0 0
  gone_stands = row_stands m 0 (0 ∷ []) 0 0 0 (omega arith) refl (inside m 0 refl (omega arith)) refl

  blank_stands : (k : ℕ) → k < 3 → Stands blanked (8 + k) (get_or (0 ∷ 0 ∷ 0 ∷ []) k 0)
  blank_stands zero lt = row_stands gone 8 (0 ∷ 0 ∷ 0 ∷ []) 1 0 8 (omega arith) refl (inside gone 8 gone_size (omega arith)) refl
  blank_stands (suc zero) lt = row_stands gone 8 (0 ∷ 0 ∷ 0 ∷ []) 1 1 9 (omega arith) refl (inside gone 9 gone_size (omega arith)) refl
  blank_stands (suc (suc zero)) lt = row_stands gone 8 (0 ∷ 0 ∷ 0 ∷ []) 1 2 10 (omega arith) refl (inside gone 10 gone_size (omega arith)) refl
  blank_stands (suc (suc (suc k))) lt = absurd (omega arith)

  apart : (i j : ℕ) → eqb i j ≡ false → i ≡ j → ⊥
  apart i j f e = grind (arith, nat_tests)

  -- All words of an empty book but the mark stand before the mark is stored, and while it is.
  abbrev Written : Words → Type 0
  Written n = Stands n 1 o.code × Stands n 2 1 × Stands n 3 leaves × Stands n 8 0 × Stands n 9 0 × Stands n 10 0

  head_others : (i : ℕ) → 3 < i → Others i head
  head_others i h = (λ e. absurd (omega arith), (λ e. absurd (omega arith), (λ e. absurd (omega arith), (tt, tt))))

  headed_written : Written headed
  headed_written = (
    row_stands blanked 1 (o.code ∷ 1 ∷ leaves ∷ []) 0 0 1 (omega arith) refl (inside blanked 1 blanked_size (omega arith)) refl,
    row_stands blanked 1 (o.code ∷ 1 ∷ leaves ∷ []) 0 1 2 (omega arith) refl (inside blanked 2 blanked_size (omega arith)) refl,
    row_stands blanked 1 (o.code ∷ 1 ∷ leaves ∷ []) 0 2 3 (omega arith) refl (inside blanked 3 blanked_size (omega arith)) refl,
    stands_done blanked head 8 0 (head_others 8 (omega arith)) (blank_stands 0 (omega arith)),
    stands_done blanked head 9 0 (head_others 9 (omega arith)) (blank_stands 1 (omega arith)),
    stands_done blanked head 10 0 (head_others 10 (omega arith)) (blank_stands 2 (omega arith)),
  )

  mark_others : (i : ℕ) → 0 < i → Others i mark
  mark_others i h = (λ e. absurd (omega arith), (tt, tt))

  marking_written : (j : ℕ) → Written (done headed (take j mark))
  marking_written j =
      let w = headed_written in
      let on : (i v : ℕ) → 0 < i → Stands headed i v → Stands (done headed (take j mark)) i v = λ i v h s. stands_take headed mark j i v (mark_others i h) s in
      (on 1 _ (omega arith) w.0, on 2 _ (omega arith) w.1, on 3 _ (omega arith) w.2, on 8 _ (omega arith) w.3, on 9 _ (omega arith) w.4, on 10 _ (omega arith) w.5)

  abbrev Outcome : List ℕ → Type 0
  Outcome words = Cut m words ⊎ ((open_answer o words ≡ Err (plain WrongMark)) ⊎ Empty o words)

  long : (words : List ℕ) → length words ≡ size_of m → 152 ≤ length words
  long words e = rw e (omega (arith, room.least, room.fits))

  no_mark : (words : List ℕ) → length words ≡ size_of m → word words 0 ≡ 0 → Outcome words
  no_mark words e z = inr (inl (unmarked o words (long words e) (λ marked. absurd (omega (arith, z, marked)))))

  -- While the mark is stored: there is none, or the book is empty.
  cut_marking : (j : ℕ) (words : List ℕ) → Cut (done headed (take j mark)) words → Outcome words
  cut_marking j words c =
      let n = done headed (take j mark) in
      let w = marking_written j in
      let size : length words ≡ size_of m = cut_length n words c ∙ (done_size headed (take j mark) ∙ headed_size) in
      let at : (i v : ℕ) → Stands n i v → word words i ≡ v = λ i v s. cut_stands n words i v c s in
      ⊎_elim
      (λ marked. inr (inr (empty_book o ordered leaves words room.least room.most (rw size room.fits) (record {
        mark = marked;
        code = at 1 _ w.0;
        first = at 2 _ w.1;
        count = at 3 _ w.2;
        next = at 8 _ w.3;
        elements = at 9 _ w.4;
        form = at 10 _ w.5;
      }))))
      (λ other. inr (inl (unmarked o words (long words size) other)))
      (cases_eq (word words 0) 30366)

  middle_others : Others 0 (blank_leaf ++ head)
  middle_others = (no 8 refl, (no 9 refl, (no 10 refl, (tt, (no 1 refl, (no 2 refl, (no 3 refl, (tt, tt))))))))
    where
      no : (j : ℕ) → eqb 0 j ≡ false → 0 ≡ j → ⊥
      no j f e = apart 0 j f e

  -- Before the mark is stored again there is none.
  cut_middle : (j : ℕ) (words : List ℕ) → Cut (done gone (take j (blank_leaf ++ head))) words → Outcome words
  cut_middle j words c =
      let n = done gone (take j (blank_leaf ++ head)) in
      no_mark words (cut_length n words c ∙ (done_size gone (take j (blank_leaf ++ head)) ∙ gone_size))
      (cut_stands n words 0 0 c (stands_take gone (blank_leaf ++ head) j 0 0 middle_others gone_stands))

  -- After the first store alone the old mark stands, or none.
  same_elsewhere : (keeps : ℕ → Bool) → keeps 0 ≡ false → (i : ℕ) → cond (keeps i) (get_or (set m.live 0 0) i 0) (get_or m.firm i 0) ≡ cond (keeps i) (get_or m.live i 0) (get_or m.firm i 0)
  same_elsewhere keeps f i =
      ⊎_elim
      (λ here. let g : keeps i ≡ false = rw here f in cond-false (keeps i) _ _ g ∙ sym (cond-false (keeps i) _ _ g))
      (λ other. ap (λ x. cond (keeps i) x (get_or m.firm i 0)) (get_or-set_other m.live 0 i 0 0 other))
      (cases_eq i 0)

  zero_first : (xs : List ℕ) → get_or (set xs 0 0) 0 0 ≡ 0
  zero_first [] = refl
  zero_first (x ∷ xs) = refl

  first_cut : (t : Bool) (keeps : ℕ → Bool) (words : List ℕ) → words ≡ picked keeps (set m.live 0 0) (cond t (set m.firm 0 0) m.firm) → Outcome words
  first_cut t keeps words is =
      let size : length words ≡ size_of m = ap length is ∙ (length_tabled (length (set m.live 0 0)) _ ∙ length-set m.live 0 0) in
      let at : (i : ℕ) → i < size_of m → word words i ≡ cond (keeps i) (get_or (set m.live 0 0) i 0) (get_or (cond t (set m.firm 0 0) m.firm) i 0) =
      λ i h. ap (λ (x : List ℕ). get_or x i 0) is ∙ tabled_at (length (set m.live 0 0)) _ i (rw (length-set m.live 0 0) h) in
      let here = at 0 (inside m 0 refl (omega arith)) in
      ⊎_elim
      (λ kept. no_mark words size (here ∙ (cond-true (keeps 0) _ _ kept ∙ zero_first m.live)))
      (λ lost. by t lost size at (here ∙ cond-false (keeps 0) _ _ lost))
      (cases_Bool (keeps 0))
    where
      by : (t : Bool) → keeps 0 ≡ false → length words ≡ size_of m
          → ((i : ℕ) → i < size_of m → word words i ≡ cond (keeps i) (get_or (set m.live 0 0) i 0) (get_or (cond t (set m.firm 0 0) m.firm) i 0))
          → word words 0 ≡ get_or (cond t (set m.firm 0 0) m.firm) 0 0 → Outcome words
      by true lost size at here = no_mark words size (here ∙ zero_first m.firm)
      by false lost size at here = inl (keeps, is_tabled words (size_of m) _ size (λ i h. at i h ∙ same_elsewhere keeps lost i))

  -- However many steps were taken.
  cut_steps : (j : ℕ) (words : List ℕ) → Cut (done m (take j (all_ops (format_writes o.code leaves)))) words → Outcome words
  cut_steps zero words c = inl c
  cut_steps (suc zero) words c = first_cut m.through c.0 words c.1
  cut_steps (suc (suc j)) words c =
      ⊎_elim
      (λ few.
      let e : take j ((blank_leaf ++ head) ++ mark) ≡ take j (blank_leaf ++ head) = take-append-le j (blank_leaf ++ head) mark (omega arith) in
      cut_middle j words (subst (λ (ops : List Op). Cut (done gone ops) words) e c))
      (λ many. let e : j ≡ suc (suc (suc (suc (suc (suc (suc (suc (j - 8)))))))) = omega arith in cut_marking (j - 8) words (subst (λ (k : ℕ). Cut (done gone (take k ((blank_leaf ++ head) ++ mark))) words) e c))
      (cases_lt j 9)

pub format_cut_holds : FormatCut
unfolding perform
format_cut_holds o ordered m leaves room words c =
    cut_steps o ordered m leaves room (formatted o m leaves).steps words
    (subst (λ (n : Words). Cut n words) (first_steps_hold m (all_ops (format_writes o.code leaves))) c)

module _ (o : WordKind) (ordered : WordOrdered o) (m : Words) (leaves : ℕ) (room : Roomy m leaves) (granted : (formatted o m leaves).ended ≡ Ok tt) where
  marked : Stands (done m (all_ops (format_writes o.code leaves))) 0 30366
  marked =
      row_stands (headed o ordered m leaves room) 0 (30366 ∷ []) 0 0 0 (omega arith) refl
      (inside o ordered m leaves room (headed o ordered m leaves room) 0 (headed_size o ordered m leaves room) (omega arith)) refl

  live_empty : Empty o (done m (all_ops (format_writes o.code leaves))).live
  live_empty =
      let w = marking_written o ordered m leaves room 2 in
      let size : size_of (done m (all_ops (format_writes o.code leaves))) ≡ size_of m = done_size m (all_ops (format_writes o.code leaves)) in
      empty_book o ordered leaves _ room.least room.most (rw size room.fits) (record {
        mark = marked.live;
        code = w.0.live;
        first = w.1.live;
        count = w.2.live;
        next = w.3.live;
        elements = w.4.live;
        form = w.5.live;
      })

  proper : Proper (size_of m) (format_writes o.code leaves)
  proper =
      let big : 152 ≤ size_of m = omega (arith, room.least, room.fits) in (
        omega arith,
        row_lined (size_of m) 0 0 (0 ∷ []) (omega arith) (omega arith) (omega arith),
        (
          omega arith,
          row_lined (size_of m) 1 8 (0 ∷ 0 ∷ 0 ∷ []) (omega arith) (omega arith) (omega arith),
          (
            omega arith,
            row_lined (size_of m) 0 1 (o.code ∷ 1 ∷ leaves ∷ []) (omega arith) (omega arith) (omega arith),
            (omega arith, row_lined (size_of m) 0 0 (30366 ∷ []) (omega arith) (omega arith) (omega arith), tt),
          ),
        ),
      )

  enough : (p : Power) → m.power ≡ p → Settled m → Enough p 12
  enough endless e s = tt
  enough (left n) e s =
      ⊎_elim
      (λ few. let b = short_holds m (format_writes o.code leaves) n s proper e few in let z : ◌≡◌ {A = ℕ} 0 1 = (let x = b.ended in cc) in absurd (omega arith))
      (λ h. h)
      (cases_lt n 12)

  settled_after : Settled m → Settled (formatted o m leaves).after
  settled_after s =
      let w = whole_holds m (format_writes o.code leaves) s proper (enough m.power refl s) in
      ap (λ (r : Run). r.after.live) w ∙ sym (ap (λ (r : Run). r.after.firm) w)

pub formats_hold : Formats
unfolding perform
formats_hold o ordered m leaves room granted =
    let ops = all_ops (format_writes o.code leaves) in
    record {
      empty = subst (λ (n : Words). Empty o n.live) (sym (run_done m ops granted)) (live_empty o ordered m leaves room granted);
      steps = run_granted m ops granted;
      settled = settled_after o ordered m leaves room granted;
    }
