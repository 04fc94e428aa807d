-- The words of a mix, and that no mix is missed.
use Rattle.std.proofs.Common.{◌≡◌, ℕ, zero, suc, ◌+◌, ◌*◌, ◌/◌, ◌%◌, ◌^◌, ◌<◌, ◌≤◌, Bool, true, false, cond, not, eqb, List, [], ◌∷◌, ◌++◌, length, drop, get_or, sym, refl, ap, ◌∙◌, ⊎_elim, append_assoc, zero-add, arith}
use Rattle.std.proofs.lemmas.Bool.{cases_Bool, cases_lt, cond-true, cond-false, eqb-true, le-ltb, lt-ltb}
use Rattle.std.proofs.lemmas.List.{drop_all, drop_more}
use Rattle.std.proofs.lemmas.Nat.{pow-add}
use Rattle.memory.specs.Meaning.{odd_at}
use Rattle.opened.specs.Mixes.{EveryMix, mix_of, next_digit, unsettled, unsettled_at}

-- Either choice leaves a settled word as it is.
either : (b : Bool) (x : ℕ) → cond b x x ≡ x
either true x = refl
either false x = refl

-- The last digit of a number made of a digit and the others.
abbrev digit : Bool → ℕ
digit b = cond b 1 0

last_digit : (b : Bool) (k : ℕ) → (digit b + 2 * k) % 2 ≡ digit b
last_digit true k = omega arith
last_digit false k = omega arith

other_digits : (b : Bool) (k : ℕ) → (digit b + 2 * k) / 2 ≡ k
other_digits true k = omega arith
other_digits false k = omega arith

is_odd : (b : Bool) → eqb (digit b % 2) 1 ≡ b
is_odd true = refl
is_odd false = refl

-- What a mix leaves of word i.
abbrev stands : List ℕ → List ℕ → List ℕ → ℕ → ℕ
stands choice live firm i = cond (odd_at choice i) (get_or live i 0) (get_or firm i 0)

abbrev kept : (ℕ → Bool) → List ℕ → List ℕ → ℕ → ℕ
kept keeps live firm i = cond (keeps i) (get_or live i 0) (get_or firm i 0)

abbrev Found : (ℕ → Bool) → List ℕ → List ℕ → ℕ → Type 0
Found keeps live firm k =
    (k < 2 ^ unsettled live firm) × ((i : ℕ) → i < length live → stands (mix_of k live firm) live firm i ≡ kept keeps live firm i)

same_head : (keeps : ℕ → Bool) (x y : ℕ) (xs ys : List ℕ) (k : ℕ) → eqb x y ≡ true → Found (λ i. keeps (suc i)) xs ys k → Found keeps (x ∷ xs) (y ∷ ys) k
same_head keeps x y xs ys k e found =
    let mix : mix_of k (x ∷ xs) (y ∷ ys) ≡ 0 ∷ mix_of k xs ys = cond-true (eqb x y) _ _ e in
    let many : unsettled (x ∷ xs) (y ∷ ys) ≡ unsettled xs ys = ap (λ b. cond b 0 1 + unsettled xs ys) e ∙ zero-add (unsettled xs ys) in
    let equal : x ≡ y = eqb-true x y e in (
      rw many found.0,
      λ i. elim i as (λ i. i < length (x ∷ xs) → stands (mix_of k (x ∷ xs) (y ∷ ys)) (x ∷ xs) (y ∷ ys) i ≡ kept keeps (x ∷ xs) (y ∷ ys) i) [
        | zero ↦ λ h. rw (mix, equal) (sym (either (keeps 0) y))
        | suc i ↦ λ h. rw mix (found.1 i (omega arith))
      ],
    )

new_head : (keeps : ℕ → Bool) (x y : ℕ) (xs ys : List ℕ) (k : ℕ) → eqb x y ≡ false → Found (λ i. keeps (suc i)) xs ys k
    → Found keeps (x ∷ xs) (y ∷ ys) (digit (keeps 0) + 2 * k)
new_head keeps x y xs ys k e found =
    let b = keeps 0 in
    let n = digit b + 2 * k in
    let mix : mix_of n (x ∷ xs) (y ∷ ys) ≡ digit b ∷ mix_of k xs ys =
    cond-false (eqb x y) _ _ e ∙ rw (last_digit b k, other_digits b k) refl in
    let many : unsettled (x ∷ xs) (y ∷ ys) ≡ 1 + unsettled xs ys = ap (λ b. cond b 0 1 + unsettled xs ys) e in
    let power : 2 ^ (1 + unsettled xs ys) ≡ 2 * 2 ^ unsettled xs ys = pow-add 2 1 (unsettled xs ys) in
    let few : digit b ≤ 1 = elim b as (λ b. digit b ≤ 1) [ true ↦ omega arith | false ↦ omega arith ] in (
      rw (many, power) (omega (arith, found.0, few)),
      λ i. elim i as (λ i. i < length (x ∷ xs) → stands (mix_of n (x ∷ xs) (y ∷ ys)) (x ∷ xs) (y ∷ ys) i ≡ kept keeps (x ∷ xs) (y ∷ ys) i) [
        | zero ↦ λ h. rw mix (ap (λ t. cond t x y) (is_odd b))
        | suc i ↦ λ h. rw mix (found.1 i (omega arith))
      ],
    )

-- Without firm words nothing is unsettled.
no_firm : (xs : List ℕ) → unsettled xs [] ≡ 0
no_firm [] = refl
no_firm (x ∷ xs) = refl

find : (keeps : ℕ → Bool) (live firm : List ℕ) → length live ≡ length firm → (k : ℕ) × Found keeps live firm k
find keeps [] firm e = (0, (omega arith, λ i h. absurd (omega arith)))
find keeps (x ∷ xs) [] e = absurd (omega arith)
find keeps (x ∷ xs) (y ∷ ys) e =
    let rest = find (λ i. keeps (suc i)) xs ys (omega arith) in
    ⊎_elim
    (λ t. (rest.0, same_head keeps x y xs ys rest.0 t rest.1))
    (λ f. (digit (keeps 0) + 2 * rest.0, new_head keeps x y xs ys rest.0 f rest.1))
    (cases_Bool (eqb x y))

pub every_mix : (live firm : List ℕ) → EveryMix live firm (2 ^ unsettled live firm)
every_mix live firm e keeps = let found = find keeps live firm e in (found.0, found.1.0, found.1.1)

-- One word more of those that are left.
module _ (live firm : List ℕ) (i : ℕ) (h : i < length live) where
  short : length firm ≤ i → unsettled_at live firm i ≡ false
  short le = rw (lt-ltb i (length live) h, le-ltb i (length firm) le) refl

  within : i < length firm → (b : Bool) → eqb (get_or live i 0) (get_or firm i 0) ≡ b → unsettled_at live firm i ≡ not b
  within lt b e = rw (lt-ltb i (length live) h, lt-ltb i (length firm) lt, e) refl

  pub next_mix : (d : ℕ) → mix_of d (drop i live) (drop i firm)
      ≡ (next_digit (unsettled_at live firm i) d).0 ∷ mix_of (next_digit (unsettled_at live firm i) d).1 (drop (i + 1) live) (drop (i + 1) firm)
  next_mix d =
      ⊎_elim
      (λ lt. ⊎_elim
      (λ t. rw (drop_more live i 0 h, drop_more firm i 0 lt, within lt true t, t) refl)
      (λ f. rw (drop_more live i 0 h, drop_more firm i 0 lt, within lt false f, f) refl)
      (cases_Bool (eqb (get_or live i 0) (get_or firm i 0))))
      (λ le. rw (drop_more live i 0 h, drop_all i firm le, drop_all (i + 1) firm (omega arith), short le) refl)
      (cases_lt i (length firm))

  pub next_count : unsettled (drop i live) (drop i firm) ≡ cond (unsettled_at live firm i) 1 0 + unsettled (drop (i + 1) live) (drop (i + 1) firm)
  next_count =
      ⊎_elim
      (λ lt. ⊎_elim
      (λ t. rw (drop_more live i 0 h, drop_more firm i 0 lt, within lt true t, t) refl)
      (λ f. rw (drop_more live i 0 h, drop_more firm i 0 lt, within lt false f, f) refl)
      (cases_Bool (eqb (get_or live i 0) (get_or firm i 0))))
      (λ le. rw (drop_more live i 0 h, drop_all i firm le, drop_all (i + 1) firm (omega arith), short le, no_firm (drop (i + 1) live)) (sym (zero-add 0)))
      (cases_lt i (length firm))

-- One turn of counting.
pub count_more : (live firm : List ℕ) (all i count new : ℕ) (b : Bool) → i < length live → b ≡ unsettled_at live firm i → new ≡ cond b (count + 1) count
    → (count + unsettled (drop i live) (drop i firm) ≡ all) × (count ≤ i)
    → (new + unsettled (drop (i + 1) live) (drop (i + 1) firm) ≡ all) × (new ≤ i + 1)
count_more live firm all i count new true h is new-is was =
    let left = unsettled (drop (i + 1) live) (drop (i + 1) firm) in
    let next : unsettled (drop i live) (drop i firm) ≡ 1 + left = next_count live firm i h ∙ ap (λ b. cond b 1 0 + left) (sym is) in
    (omega (arith, next, new-is, was.0), omega (arith, new-is, was.1))
count_more live firm all i count new false h is new-is was =
    let left = unsettled (drop (i + 1) live) (drop (i + 1) firm) in
    let next : unsettled (drop i live) (drop i firm) ≡ 0 + left = next_count live firm i h ∙ ap (λ b. cond b 1 0 + left) (sym is) in
    (omega (arith, next, new-is, was.0), omega (arith, new-is, was.1))

-- One turn of making a mix.
pub run_more : (live firm run new all : List ℕ) (i d : ℕ) → i < length live → run ++ mix_of d (drop i live) (drop i firm) ≡ all
    → (next : ℕ × ℕ) → next ≡ next_digit (unsettled_at live firm i) d → new ≡ run ++ (next.0 ∷ [])
    → new ++ mix_of next.1 (drop (i + 1) live) (drop (i + 1) firm) ≡ all
run_more live firm run new all i d h was next is pushed =
    rw (pushed, append_assoc run (next.0 ∷ []) (mix_of next.1 (drop (i + 1) live) (drop (i + 1) firm)))
    (rw is (ap (λ xs. run ++ xs) (sym (next_mix live firm i h d)) ∙ was))
