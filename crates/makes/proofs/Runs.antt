-- Stores and flushes of the buffered memory, by its two runs.
use Rattle.std.proofs.Common.{◌≡◌, ◌≢◌, ℕ, ◌+◌, ◌-◌, ◌*◌, ◌/◌, ◌%◌, ◌<◌, ◌≤◌, min, true, false, cond, ◌&&◌, eqb, ltb, leb, List, [], length, get_or, take, drop, set, is_ok, sym, refl, ◌∙◌, ⊎_elim, arith, drop-set-lt, rules}
use lib.Seq.{take-set-lt}
use Rattle.std.proofs.lemmas.List.{places, ext_get_or, length-take, get_or-take, length-drop, get_or-drop, length-set, get_or-set_same, get_or-set_other}
use Rattle.std.proofs.lemmas.Bool.{cases_eq, cond-true, lt-ltb}
use Rattle.std.proofs.lemmas.Bool.Decides.{nat_tests}
use Rattle.memory.specs.Meaning.{picked, store_answer, after_store, flush_answer, after_flush, odd_at, settle_answer, after_settle, Freely}
use Rattle.makes.specs.Makes.{shared, unshared, buffered_words, through_words}
use Rattle.makes.specs.Probes.{poked}
use Rattle.memory.proofs.Words.{choices_for, length_chosen, odd_at_chosen, is_tabled, picked_by, picked_same, words_by}

pub store_after : (a b : List ℕ) (n i w : ℕ) → i < shared a b → is_ok (store_answer (buffered_words a b n) i) ≡ true
    → buffered_words (set a i w) b (n - 1) ≡ after_store (buffered_words a b n) i w
store_after a b n i w h g =
    rw (cond-true (is_ok (store_answer (buffered_words a b n) i)) _ _ g) (simp (length-set, take-set-lt))

pub poke_after : (a b : List ℕ) (n i w : ℕ) → i < shared a b → buffered_words (set a i w) (set b i w) n ≡ poked (buffered_words a b n) i w
poke_after a b n i w h = simp (length-set, take-set-lt)

in_line : (k l n i : ℕ) → k < n → i ≡ min n (8 * l + 8) → (leb (8 * l) k && ltb k i) ≡ eqb (k / 8) l
in_line k l n i h e = grind (arith, nat_tests)

-- The live words of line l have come to the firm run.
pub flush_after : (a b b' : List ℕ) (n l i : ℕ) → length b' ≡ length b → i ≡ min (shared a b) (8 * l + 8)
    → is_ok (flush_answer (buffered_words a b n) l) ≡ true
    → ((k : ℕ) → get_or b' k 0 ≡ cond (leb (8 * l) k && ltb k i) (get_or a k 0) (get_or b k 0))
    → buffered_words a b' (n - 1) ≡ after_flush (buffered_words a b n) l
flush_after a b b' n l i e end g at =
    rw (cond-true (is_ok (flush_answer (buffered_words a b n) l)) _ _ g)
    (rw e
    (words_by false _ _ refl
    (is_tabled (take (shared a b) b') (length (take (shared a b) a)) _ (search (rules, places))
    (λ k h.
    let below : k < shared a b = omega (arith, length-take (shared a b) a) in
    simp (get_or-take, ← in_line k l (shared a b) i below end) (at k)))))

-- A run whose words below i are as g says, and the rest as they were: one word more stays as it is, or is written.
abbrev pub as_said : (ℕ → ℕ) → (ℕ → ℕ) → ℕ → List ℕ → Type 0
as_said g old i x = (k : ℕ) → get_or x k 0 ≡ cond (ltb k i) (g k) (old k)

pub stays_more : (g old : ℕ → ℕ) (i : ℕ) (x : List ℕ) → g i ≡ old i → as_said g old i x → as_said g old (i + 1) x
stays_more g old i x same h k =
    ⊎_elim (λ e. let at = h i in rw e (grind (arith, nat_tests)))
    (λ ne. let apart : ltb k (i + 1) ≡ ltb k i = grind (arith, nat_tests) in rw apart (h k))
    (cases_eq k i)

pub written_more : (g old : ℕ → ℕ) (i w : ℕ) (x : List ℕ) → i < length x → w ≡ g i → as_said g old i x → as_said g old (i + 1) (set x i w)
written_more g old i w x within is h k =
    ⊎_elim (λ e. let put = get_or-set_same x i w 0 within in rw e (grind (arith, nat_tests)))
    (λ ne. let apart : ltb k (i + 1) ≡ ltb k i = grind (arith, nat_tests) in rw (apart, get_or-set_other x i k w 0 ne) (h k))
    (cases_eq k i)

-- One choice more, of a word that either run takes from the other.
module _ (a b choice : List ℕ) (i w : ℕ) (same : w ≡ get_or choice i 0) where
  abbrev pub chosen_at : ℕ → ℕ
  chosen_at k = cond (odd_at choice k) (get_or a k 0) (get_or b k 0)

  pub odd : w % 2 ≡ 1 → chosen_at i ≡ get_or a i 0
  odd h = let e : odd_at choice i ≡ true = grind (arith, nat_tests) in rw e refl

  pub even : w % 2 ≢ 1 → chosen_at i ≡ get_or b i 0
  even h = let e : odd_at choice i ≡ false = grind (arith, nat_tests) in rw e refl

-- A word that is as it was.
pub still : (g old : ℕ → ℕ) (i : ℕ) (x : List ℕ) → as_said g old i x → get_or x i 0 ≡ old i
still g old i x h = let at = h i in grind (arith, nat_tests)

kept : (a b x : List ℕ) (choice : List ℕ) (i : ℕ) (old : ℕ → ℕ) → shared a b ≤ length x → shared a b ≤ i
    → ((k : ℕ) → get_or x k 0 ≡ cond (ltb k i) (cond (odd_at choice k) (get_or a k 0) (get_or b k 0)) (old k))
    → take (shared a b) x ≡ picked (odd_at choice) (take (shared a b) a) (take (shared a b) b)
kept a b x choice i old long end at =
    is_tabled (take (shared a b) x) (length (take (shared a b) a)) _ (search (rules, places))
    (λ k h.
    let below : k < shared a b = omega (arith, length-take (shared a b) a) in
    simp get_or-take (at k ∙ cond-true (ltb k i) _ _ (lt-ltb k i (omega arith))))

-- Both runs hold what the choice run keeps.
pub settle_after : (a b a' b' choice : List ℕ) (n steps i : ℕ) → length a' ≡ length a → length b' ≡ length b → shared a b ≤ i
    → is_ok (settle_answer (buffered_words a b n) choice) ≡ true
    → ((k : ℕ) → get_or a' k 0 ≡ cond (ltb k i) (cond (odd_at choice k) (get_or a k 0) (get_or b k 0)) (get_or a k 0))
    → ((k : ℕ) → get_or b' k 0 ≡ cond (ltb k i) (cond (odd_at choice k) (get_or a k 0) (get_or b k 0)) (get_or b k 0))
    → buffered_words a' b' steps ≡ after_settle (buffered_words a b n) choice steps
settle_after a b a' b' choice n steps i ea eb end g at-live at-firm =
    rw (cond-true (is_ok (settle_answer (buffered_words a b n) choice)) _ _ g, ea, eb)
    (words_by false _ _
    (kept a b a' choice i (λ k. get_or a k 0) (omega arith) end at-live)
    (kept a b b' choice i (λ k. get_or b k 0) (omega arith) end at-firm))

-- Two runs that agree from word n on have the same rest.
same_rest : (a b : List ℕ) (n : ℕ) → length a ≡ length b → ((k : ℕ) → n ≤ k → get_or a k 0 ≡ get_or b k 0) → drop n a ≡ drop n b
same_rest a b n e h =
    ext_get_or 0 (drop n a) (drop n b) (simp length-drop (omega arith))
    (λ k _. simp get_or-drop (h (n + k) (omega arith)))

pub unshared_kept : (a b a' b' : List ℕ) → length a' ≡ length a → length b' ≡ length b
    → ((k : ℕ) → shared a b ≤ k → get_or a' k 0 ≡ get_or a k 0) → ((k : ℕ) → shared a b ≤ k → get_or b' k 0 ≡ get_or b k 0)
    → unshared a' b' ≡ unshared a b
unshared_kept a b a' b' ea eb at-live at-firm =
    let live : drop (shared a b) a' ≡ drop (shared a b) a = same_rest a' a (shared a b) ea at-live in
    let firm : drop (shared a b) b' ≡ drop (shared a b) b = same_rest b' b (shared a b) eb at-firm in
    rw (ea, eb, live, firm)

pub unshared_set : (a b : List ℕ) (i w : ℕ) → i < shared a b → unshared (set a i w) b ≡ unshared a b
unshared_set a b i w h = simp (length-set, drop-set-lt)

pub flush_rest : (a b b' : List ℕ) (l i : ℕ) → length b' ≡ length b → i ≤ shared a b
    → ((k : ℕ) → get_or b' k 0 ≡ cond (leb (8 * l) k && ltb k i) (get_or a k 0) (get_or b k 0))
    → unshared a b' ≡ unshared a b
flush_rest a b b' l i e end at =
    unshared_kept a b a b' refl e (λ k h. refl)
    (λ k h. let past : (leb (8 * l) k && ltb k i) ≡ false = grind (arith, nat_tests) in at k ∙ rw past)

pub settle_rest : (a b a' b' choice : List ℕ) (i : ℕ) → length a' ≡ length a → length b' ≡ length b → i ≤ shared a b
    → ((k : ℕ) → get_or a' k 0 ≡ cond (ltb k i) (cond (odd_at choice k) (get_or a k 0) (get_or b k 0)) (get_or a k 0))
    → ((k : ℕ) → get_or b' k 0 ≡ cond (ltb k i) (cond (odd_at choice k) (get_or a k 0) (get_or b k 0)) (get_or b k 0))
    → unshared a' b' ≡ unshared a b
settle_rest a b a' b' choice i ea eb end at-live at-firm =
    unshared_kept a b a' b' ea eb
    (λ k h. let past : ltb k i ≡ false = grind (arith, nat_tests) in at-live k ∙ rw past)
    (λ k h. let past : ltb k i ≡ false = grind (arith, nat_tests) in at-firm k ∙ rw past)

-- Every mix can be chosen in a buffered memory, and in a through memory there is only one.
pub buffered_free : (a b : List ℕ) (n : ℕ) → Freely (buffered_words a b n)
buffered_free a b n keeps = (
  choices_for (shared a b) keeps,
  length_chosen (shared a b) keeps,
  picked_by (odd_at (choices_for (shared a b) keeps)) keeps (take (shared a b) a) (take (shared a b) b)
      (λ k h. odd_at_chosen (shared a b) keeps k (omega (arith, length-take (shared a b) a))),
)

pub through_free : (run : List ℕ) → Freely (through_words run)
through_free run keeps = ([], refl, sym (picked_same (odd_at []) run) ∙ picked_same keeps run)
