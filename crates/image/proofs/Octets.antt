-- One word and its eight octets.
use Rattle.std.proofs.Common.{◌≡◌, ℕ, zero, suc, ◌+◌, ◌*◌, ◌/◌, ◌%◌, ◌^◌, ◌<◌, ◌≤◌, List, [], ◌∷◌, map, length, get_or, take, drop, refl, ◌∙◌, arith}
use Rattle.std.specs.List.{range_with_len}
use Rattle.std.specs.Simd.{first_chunks}
use Rattle.std.specs.Int.Digits.{number_from_digits}
use Rattle.std.proofs.lemmas.List.{drop-drop, get_or-take, get_or-drop, length-drop, length-take-le}
use Rattle.std.proofs.lemmas.List.FromFn.{fill_by_all}
use Rattle.image.specs.Image.{octets_at, octets_of}

-- A word below 2 ^ 64 is the number that its octets write.
pub word_back : (w : ℕ) → w < 2 ^ 64 → number_from_digits 256 (octets_of w) ≡ w
word_back w h = omega arith

-- Eight octets are those of the number that they write.
pub octets_back : (a b c d e f g h : ℕ) → a < 256 → b < 256 → c < 256 → d < 256 → e < 256 → f < 256 → g < 256 → h < 256
    → octets_of (number_from_digits 256 (a ∷ b ∷ c ∷ d ∷ e ∷ f ∷ g ∷ h ∷ [])) ≡ a ∷ b ∷ c ∷ d ∷ e ∷ f ∷ g ∷ h ∷ []
octets_back a b c d e f g h ha hb hc hd he hf hg hh =
    let n = number_from_digits 256 (a ∷ b ∷ c ∷ d ∷ e ∷ f ∷ g ∷ h ∷ []) in
    let e0 : n / 256 ^ 7 % 256 ≡ a = omega arith in
    let e1 : n / 256 ^ 6 % 256 ≡ b = omega arith in
    let e2 : n / 256 ^ 5 % 256 ≡ c = omega arith in
    let e3 : n / 256 ^ 4 % 256 ≡ d = omega arith in
    let e4 : n / 256 ^ 3 % 256 ≡ e = omega arith in
    let e5 : n / 256 ^ 2 % 256 ≡ f = omega arith in
    let e6 : n / 256 % 256 ≡ g = omega arith in
    let e7 : n % 256 ≡ h = omega arith in
    cc

-- Eight octets from a place on.
pub eight_from : (xs : List ℕ) (s : ℕ) → s + 8 ≤ length xs
    → take 8 (drop s xs) ≡ map (λ k. get_or xs (s + k) 0) (range_with_len 0 8)
eight_from xs s h =
    fill_by_all (λ k. get_or xs (s + k) 0) (take 8 (drop s xs)) 8 0
    (length-take-le 8 (drop s xs) (simp length-drop (omega arith)))
    (λ k lt. get_or-take 8 (drop s xs) k 0 lt ∙ get_or-drop s xs k 0)

-- Group k of eight octets.
pub group_at : (octets : List ℕ) (n k : ℕ) → k < n → get_or (first_chunks 8 n octets) k [] ≡ octets_at octets k
group_at octets zero k h = absurd (omega arith)
group_at octets (suc n) zero h = refl
group_at octets (suc n) (suc k) h =
    let e : 8 * suc k ≡ 8 + 8 * k = omega arith in
    rw (e, ← drop-drop (8 * k) 8 octets) (group_at (drop 8 octets) n k (omega arith))
