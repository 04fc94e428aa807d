-- Lists of words that are made from a function of the index.
use Rattle.std.proofs.Common.{◌≡◌, ℕ, ◌%◌, ◌<◌, Bool, true, false, cond, eqb, List, length, get_or, sym, refl, ap, ◌∙◌, arith}
use Rattle.std.proofs.lemmas.List.{ext_get_or}
use Rattle.std.proofs.lemmas.List.FromFn.{length-map-range_with_len, get_or-map-range_with_len}
use Rattle.memory.specs.Meaning.{Choosing, Power, Words, tabled, picked, odd_at}

pub length_tabled : (n : ℕ) (f : ℕ → ℕ) → length (tabled n f) ≡ n
length_tabled n f = length-map-range_with_len f 0 n

pub tabled_at : (n : ℕ) (f : ℕ → ℕ) (k : ℕ) → k < n → get_or (tabled n f) k 0 ≡ f k
tabled_at n f k h = get_or-map-range_with_len f 0 n k k 0 h (omega arith)

-- A list is the table of n entries that agrees with it.
pub is_tabled : (xs : List ℕ) (n : ℕ) (f : ℕ → ℕ) → length xs ≡ n → ((k : ℕ) → k < n → get_or xs k 0 ≡ f k) → xs ≡ tabled n f
is_tabled xs n f e h =
    ext_get_or 0 xs (tabled n f) (e ∙ sym (length_tabled n f))
    (λ k lt. let below : k < n = omega arith in h k below ∙ sym (tabled_at n f k below))

pub picked_same : (f : ℕ → Bool) (a : List ℕ) → a ≡ picked f a a
picked_same f a = is_tabled a (length a) _ refl (λ k _. elim (f k) as (λ b. get_or a k 0 ≡ cond b (get_or a k 0) (get_or a k 0)) [ true ↦ refl | false ↦ refl ])

-- Only the tests within the list count.
pub picked_by : (f g : ℕ → Bool) (a b : List ℕ) → ((k : ℕ) → k < length a → f k ≡ g k) → picked f a b ≡ picked g a b
picked_by f g a b same =
    is_tabled (picked f a b) (length a) _ (length_tabled (length a) _)
    (λ k h. tabled_at (length a) _ k h ∙ ap (λ x. cond x (get_or a k 0) (get_or b k 0)) (same k h))

pub words_by : {a a' b b' : List ℕ} (t : Bool) (p : Power) (c : Choosing) → a ≡ a' → b ≡ b'
    → ◌≡◌ {A = Words} (record { live = a; firm = b; through = t; power = p; choosing = c }) (record { live = a'; firm = b'; through = t; power = p; choosing = c })
words_by t p c e f = cc

-- A choice run for any test.
pub choices_for : ℕ → (ℕ → Bool) → List ℕ
choices_for n keeps = tabled n (λ i. cond (keeps i) 1 0)

odd_bit : (b : Bool) → eqb (cond b 1 0 % 2) 1 ≡ b
odd_bit true = refl
odd_bit false = refl

pub length_chosen : (n : ℕ) (keeps : ℕ → Bool) → length (choices_for n keeps) ≡ n
unfolding choices_for
length_chosen n keeps = length_tabled n _

pub odd_at_chosen : (n : ℕ) (keeps : ℕ → Bool) (k : ℕ) → k < n → odd_at (choices_for n keeps) k ≡ keeps k
unfolding choices_for
odd_at_chosen n keeps k h = ap (λ x. eqb (x % 2) 1) (tabled_at n _ k h) ∙ odd_bit (keeps k)
