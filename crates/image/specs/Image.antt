-- The image of words: each as its eight octets, the most significant first.
use Rattle.std.specs.Prelude.{◌≡◌, ℕ, ◌*◌, ◌/◌, ◌%◌, ◌^◌, cond, List, [], ◌∷◌, ◌++◌, length, take, drop, is_ok, Ok, Err, Result, ◌==◌}
use Rattle.std.specs.Int.Digits.{number_from_digits, AllBelowBase}
use Rattle.refusal.specs.declared.Refusal.{Refusal}
use Rattle.refusal.specs.declared.Refusal.TheVariants.{WrongLength}
use Rattle.memory.specs.Meaning.{tabled}

abbrev pub octets_of : ℕ → List ℕ
octets_of w =
    (w / 256 ^ 7 % 256) ∷ (w / 256 ^ 6 % 256) ∷ (w / 256 ^ 5 % 256) ∷ (w / 256 ^ 4 % 256)
    ∷ (w / 256 ^ 3 % 256) ∷ (w / 256 ^ 2 % 256) ∷ (w / 256 % 256) ∷ (w % 256) ∷ []

abbrev pub image : List ℕ → List ℕ
image [] = []
image (w ∷ ws) = octets_of w ++ image ws

-- The octets of word i, and the number that they write.
abbrev pub octets_at : List ℕ → ℕ → List ℕ
octets_at octets i = take 8 (drop (8 * i) octets)

abbrev pub words_of : List ℕ → List ℕ
words_of octets = tabled (length octets / 8) (λ i. number_from_digits 256 (octets_at octets i))

-- So many octets hold so many words if there are eight for each.
abbrev pub image_answer : ℕ → ℕ → Result (Unit {0}) Refusal
image_answer octets words = cond (octets == 8 * words) (Ok tt) (Err WrongLength)

-- A refused call changes nothing.
abbrev pub after_write : List ℕ → List ℕ → List ℕ
after_write words octets = cond (is_ok (image_answer (length octets) (length words))) (image words) octets

abbrev pub after_read : List ℕ → List ℕ → List ℕ
after_read octets words = cond (is_ok (image_answer (length octets) (length words))) (words_of octets) words

-- Theorems: each word takes so many octets; words come back from their image, and octets from their words; no two lists of words have one image.
abbrev pub LongAs : ℕ → Type 0
LongAs n = (words : List ℕ) → length (image words) ≡ n * length words

abbrev pub ReadBack : Type 0
ReadBack = (words : List ℕ) → AllBelowBase (2 ^ 64) words → words_of (image words) ≡ words

abbrev pub WrittenBack : Type 0
WrittenBack = (octets : List ℕ) → AllBelowBase 256 octets → length octets % 8 ≡ 0 → image (words_of octets) ≡ octets

abbrev pub OneImage : Type 0
OneImage = (a b : List ℕ) → AllBelowBase (2 ^ 64) a → AllBelowBase (2 ^ 64) b → image a ≡ image b → a ≡ b
