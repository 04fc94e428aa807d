-- Words in two copies: all new, one stored, a line flushed, all settled.
use Rattle.std.proofs.Common.{◌≡◌, ◌≢◌, ℕ, ◌+◌, ◌-◌, ◌*◌, ◌/◌, ◌<◌, ◌≤◌, min, true, cond, ◌&&◌, eqb, ltb, leb, List, length, map, get_or, set, Ok, Err, sym, refl, ap, ◌∙◌, ⊎_elim, arith}
use lib.ListN.{replicate}
use Rattle.std.proofs.lemmas.List.{length-map, length-replicate, length-set, map-set, get_or-map, get_or-replicate, get_or-set_same, get_or-set_other}
use Rattle.std.proofs.Math.Seq.{map-set_same}
use Rattle.std.proofs.lemmas.Bool.{cases_eq, cond-true}
use Rattle.std.proofs.lemmas.Bool.Decides.{nat_tests}
use Rattle.refusal.specs.declared.Refusal.TheVariants.{WrongLength}
use Rattle.memory.specs.Meaning.{Freely, after_flush, after_settle, after_store, flush_answer, odd_at, settle_answer, store_answer, tabled}
use Rattle.memory.proofs.Facts.{after_granted_flush, after_granted_settle, after_granted_store}
use Rattle.memory.proofs.Words.{choices_for, length_chosen, odd_at_chosen, is_tabled, picked_by}
use Rattle.own_memory.specs.Words.{firm_of, live_of}
use Rattle.own_memory.specs.Shadowed.{blank_words, shadowed_words}
use Rattle.own_memory.specs.declared.copies.Copies.{Copies}

zeros : (f : Copies → ℕ) (n : ℕ) (c : Copies) → f c ≡ 0 → map f (replicate n c) ≡ tabled n (λ _. 0)
zeros f n c e =
    let long = length-replicate n c in
    is_tabled (map f (replicate n c)) n (λ _. 0) (length-map (replicate n c) f ∙ long)
    (λ k h. get_or-map f (replicate n c) k c 0 (omega (arith, long)) ∙ ap f (get_or-replicate n k c c h) ∙ e)

pub new_words : (n steps : ℕ) (c : Copies) → live_of c ≡ 0 → firm_of c ≡ 0 → shadowed_words (replicate n c) steps ≡ blank_words n steps
new_words n steps c live firm = rw (zeros live_of n c live, zeros firm_of n c firm, length-replicate n c) refl

-- A store where there is a word, a step is left and the word is settled.
pub store_granted : (cs : List Copies) (n i : ℕ) (d : Copies) → i < length cs → n ≢ 0 → live_of (get_or cs i d) ≡ firm_of (get_or cs i d)
    → Ok tt ≡ store_answer (shadowed_words cs n) i
store_granted cs n i d within power level =
    let live = get_or-map live_of cs i d 0 within in
    let firm = get_or-map firm_of cs i d 0 within in
    let long = length-map cs live_of in
    grind (arith, nat_tests)

-- A flush of a line that has words, where a step is left.
pub flush_granted : (cs : List Copies) (n l : ℕ) → 8 * l < length cs → n ≢ 0 → Ok tt ≡ flush_answer (shadowed_words cs n) l
flush_granted cs n l within power = let long = length-map cs live_of in grind (arith, nat_tests)

pub store_after : (cs : List Copies) (n i w : ℕ) (c d : Copies) → live_of c ≡ w → firm_of c ≡ firm_of (get_or cs i d)
    → Ok tt ≡ store_answer (shadowed_words cs n) i
    → shadowed_words (set cs i c) (n - 1) ≡ after_store (shadowed_words cs n) i w
store_after cs n i w c d live firm g =
    rw (after_granted_store (shadowed_words cs n) i w g, map-set live_of cs i c, live, map-set_same firm_of cs i c d firm, length-set cs i c) refl

-- The words from one on and before another are as g says, and the others as they were.
abbrev pub Written : ℕ → ℕ → (ℕ → ℕ) → (ℕ → ℕ) → List ℕ → Type 0
Written from to g old x = (k : ℕ) → get_or x k 0 ≡ cond (leb from k && ltb k to) (g k) (old k)

one_more : (from i : ℕ) (g old : ℕ → ℕ) (x : List ℕ) (w : ℕ) → from ≤ i → i < length x → w ≡ g i → Written from i g old x → Written from (i + 1) g old (set x i w)
one_more from i g old x w start within is h k =
    ⊎_elim (λ e. let put = get_or-set_same x i w 0 within in rw e (grind (arith, nat_tests)))
    (λ ne. let apart : ltb k (i + 1) ≡ ltb k i = grind (arith, nat_tests) in rw (apart, get_or-set_other x i k w 0 ne) (h k))
    (cases_eq k i)

-- The next one is as it was.
not_yet : (from i : ℕ) (g old : ℕ → ℕ) (x : List ℕ) → Written from i g old x → get_or x i 0 ≡ old i
not_yet from i g old x h = let at = h i in grind (arith, nat_tests)

abbrev pub live_at : List Copies → ℕ → ℕ
live_at cs k = get_or (map live_of cs) k 0

abbrev pub firm_at : List Copies → ℕ → ℕ
firm_at cs k = get_or (map firm_of cs) k 0

-- The words of line l that stand before word i are flushed.
abbrev pub Flushing : List Copies → ℕ → ℕ → List Copies → Type 0
Flushing cs l i ws =
    (length ws ≡ length cs) × (map live_of ws ≡ map live_of cs) × Written (8 * l) i (live_at cs) (firm_at cs) (map firm_of ws)

pub flush_more : (cs ws : List Copies) (l i : ℕ) (c d : Copies) → 8 * l ≤ i → i < length ws
    → live_of c ≡ live_of (get_or ws i d) → firm_of c ≡ live_of (get_or ws i d) → Flushing cs l i ws → Flushing cs l (i + 1) (set ws i c)
flush_more cs ws l i c d start within live firm h =
    let long = length-map ws firm_of in
    let now : firm_of c ≡ live_at cs i = firm ∙ sym (get_or-map live_of ws i d 0 within) ∙ ap (λ xs. get_or xs i 0) h.1 in (
      length-set ws i c ∙ h.0,
      map-set_same live_of ws i c d live ∙ h.1,
      rw (map-set firm_of ws i c) (one_more (8 * l) i (live_at cs) (firm_at cs) (map firm_of ws) (firm_of c) start (omega (arith, long)) now h.2),
    )

in_line : (k l n i : ℕ) → k < n → i ≡ min n (8 * l + 8) → (leb (8 * l) k && ltb k i) ≡ eqb (k / 8) l
in_line k l n i h e = grind (arith, nat_tests)

pub flush_after : (cs ws : List Copies) (n l i : ℕ) → i ≡ min (length cs) (8 * l + 8) → Ok tt ≡ flush_answer (shadowed_words cs n) l
    → Flushing cs l i ws → shadowed_words ws (n - 1) ≡ after_flush (shadowed_words cs n) l
flush_after cs ws n l i end g h =
    let long = length-map cs live_of in
    let many = length-map ws firm_of in
    let firm : map firm_of ws ≡ tabled (length (map live_of cs)) (λ k. cond (eqb (k / 8) l) (live_at cs k) (firm_at cs k)) =
    is_tabled (map firm_of ws) (length (map live_of cs)) _ (many ∙ h.0 ∙ sym long)
    (λ k lt. h.2 k ∙ ap (λ b. cond b (live_at cs k) (firm_at cs k)) (in_line k l (length cs) i (omega (arith, long)) end)) in
    rw (after_granted_flush (shadowed_words cs n) l g, h.0, h.1, firm) refl

-- What a choice run keeps of word k.
abbrev pub kept : List Copies → List ℕ → ℕ → ℕ
kept cs choice k = cond (odd_at choice k) (live_at cs k) (firm_at cs k)

-- The words before word i are settled.
abbrev pub Settling : List Copies → List ℕ → ℕ → List Copies → Type 0
Settling cs choice i ws =
    (length ws ≡ length cs) × Written 0 i (kept cs choice) (live_at cs) (map live_of ws) × Written 0 i (kept cs choice) (firm_at cs) (map firm_of ws)

pub settle_more : (cs ws : List Copies) (choice : List ℕ) (i : ℕ) (c d : Copies) → i < length ws
    → live_of c ≡ cond (odd_at choice i) (live_of (get_or ws i d)) (firm_of (get_or ws i d))
    → firm_of c ≡ cond (odd_at choice i) (live_of (get_or ws i d)) (firm_of (get_or ws i d))
    → Settling cs choice i ws → Settling cs choice (i + 1) (set ws i c)
settle_more cs ws choice i c d within live firm h =
    let was-live : live_of (get_or ws i d) ≡ live_at cs i = sym (get_or-map live_of ws i d 0 within) ∙ not_yet 0 i (kept cs choice) (live_at cs) (map live_of ws) h.1 in
    let was-firm : firm_of (get_or ws i d) ≡ firm_at cs i = sym (get_or-map firm_of ws i d 0 within) ∙ not_yet 0 i (kept cs choice) (firm_at cs) (map firm_of ws) h.2 in
    let long-live = length-map ws live_of in
    let long-firm = length-map ws firm_of in (
      length-set ws i c ∙ h.0,
      rw (map-set live_of ws i c) (one_more 0 i (kept cs choice) (live_at cs) (map live_of ws) (live_of c) (omega arith) (omega (arith, long-live)) (rw (was-live, was-firm) at live) h.1),
      rw (map-set firm_of ws i c) (one_more 0 i (kept cs choice) (firm_at cs) (map firm_of ws) (firm_of c) (omega arith) (omega (arith, long-firm)) (rw (was-live, was-firm) at firm) h.2),
    )

all_kept : (cs ws : List Copies) (choice : List ℕ) (f : Copies → ℕ) (old : ℕ → ℕ) (i : ℕ) → length cs ≤ i → length ws ≡ length cs
    → Written 0 i (kept cs choice) old (map f ws) → map f ws ≡ tabled (length (map live_of cs)) (kept cs choice)
all_kept cs ws choice f old i end same h =
    let long = length-map cs live_of in
    is_tabled (map f ws) (length (map live_of cs)) (kept cs choice) (length-map ws f ∙ same ∙ sym long)
    (λ k lt.
    let below : k < length cs = omega (arith, long) in
    let done : (leb 0 k && ltb k i) ≡ true = grind (arith, nat_tests) in
    h k ∙ cond-true (leb 0 k && ltb k i) _ _ done)

pub settle_granted : (cs : List Copies) (choice : List ℕ) (n : ℕ) → length cs ≤ length choice → Ok tt ≡ settle_answer (shadowed_words cs n) choice
settle_granted cs choice n enough = grind (arith, nat_tests)

-- Too few choices are refused, and change nothing.
pub too_few : (cs : List Copies) (choice : List ℕ) (n : ℕ) → length choice < length cs → Err WrongLength ≡ settle_answer (shadowed_words cs n) choice
too_few cs choice n few = grind (arith, nat_tests)

pub settle_after : (cs ws : List Copies) (choice : List ℕ) (n steps i : ℕ) → length cs ≤ i → Ok tt ≡ settle_answer (shadowed_words cs n) choice
    → Settling cs choice i ws → shadowed_words ws steps ≡ after_settle (shadowed_words cs n) choice steps
settle_after cs ws choice n steps i end g h =
    rw (
      after_granted_settle (shadowed_words cs n) choice steps g,
      h.0,
      all_kept cs ws choice live_of (live_at cs) i end h.0 h.1,
      all_kept cs ws choice firm_of (firm_at cs) i end h.0 h.2,
    )
    refl

-- Every mix can be chosen.
pub shadowed_free : (cs : List Copies) (n : ℕ) → Freely (shadowed_words cs n)
shadowed_free cs n keeps = (
  choices_for (length cs) keeps,
  length_chosen (length cs) keeps,
  picked_by (odd_at (choices_for (length cs) keeps)) keeps (map live_of cs) (map firm_of cs)
      (λ k h. odd_at_chosen (length cs) keeps k (omega (arith, length-map cs live_of))),
)
