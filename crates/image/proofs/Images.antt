-- Images of lists of words, and their octets.
use Rattle.std.proofs.Common.{◌≡◌, ℕ, zero, suc, ◌+◌, ◌*◌, ◌/◌, ◌%◌, ◌^◌, ◌<◌, ◌≤◌, List, [], ◌∷◌, ◌++◌, map, length, get_or, take, drop, Ok, sym, refl, ap, ◌∙◌, ⊎_elim, add-zero, arith, lit<}
use Rattle.std.specs.List.{range_with_len}
use Rattle.std.specs.Int.Digits.{number_from_digits, AllBelowBase}
use Rattle.std.proofs.lemmas.List.{append_assoc, append-nil, drop_all, drop_at, drop-drop, get_or_past, length-take-le, take-append-drop, take_all, take_at, take_more}
use Rattle.std.proofs.lemmas.List.FromFn.{fill_by_all}
use Rattle.std.proofs.lemmas.Bool.{cases_lt}
use Rattle.std.proofs.ByRecursion.{All-get_or}
use Rattle.image.specs.Image.{after_read, after_write, image, image_answer, octets_at, octets_of, words_of, OneImage, ReadBack, WrittenBack}
use Rattle.image.proofs.Lengths.{granted}
use Rattle.image.proofs.Octets.{eight_from, octets_back, word_back}

pub length_image : (words : List ℕ) → length (image words) ≡ 8 * length words
length_image [] = refl
length_image (w ∷ ws) = omega (arith, length_image ws)

pub image_append : (a b : List ℕ) → image (a ++ b) ≡ image a ++ image b
image_append [] b = refl
image_append (w ∷ ws) b = ap (λ x. octets_of w ++ x) (image_append ws b)

-- Word k of an image has the octets of word k.
pub octets_at_image : (words : List ℕ) (k : ℕ) → k < length words → octets_at (image words) k ≡ octets_of (get_or words k 0)
octets_at_image [] k h = absurd (omega arith)
octets_at_image (w ∷ ws) zero h = refl
octets_at_image (w ∷ ws) (suc k) h =
    let e : 8 * suc k ≡ 8 + 8 * k = omega arith in
    rw (e, ← drop-drop (8 * k) 8 (octets_of w ++ image ws)) (octets_at_image ws k (omega arith))

-- One word more is written.
pub written_more : (words octets old : List ℕ) (i w : ℕ) → i < length words → w ≡ get_or words i 0
    → octets ≡ image (take i words) ++ drop (8 * i) old
    → take (8 * i) octets ++ (octets_of w ++ drop (8 * i + 8) octets) ≡ image (take (i + 1) words) ++ drop (8 * (i + 1)) old
written_more words octets old i w h e inv =
    let front : length (image (take i words)) ≡ 8 * i = omega (arith, length_image (take i words), length-take-le i words (omega arith)) in
    let next : 8 * (i + 1) ≡ 8 * i + 8 = omega arith in
    let before : take (8 * i) octets ≡ image (take i words) = rw inv (take_at (image (take i words)) (drop (8 * i) old) (8 * i) front) in
    let from : drop (8 * i) octets ≡ drop (8 * i) old = rw inv (drop_at (image (take i words)) (drop (8 * i) old) (8 * i) front) in
    let past = sym (drop-drop 8 (8 * i) octets) ∙ (ap (drop 8) from ∙ drop-drop 8 (8 * i) old) in
    let more = ap image (take_more words i 0 h) ∙ image_append (take i words) (get_or words i 0 ∷ []) in
    rw (next, before, past, more, e) (sym (append_assoc (image (take i words)) (octets_of (get_or words i 0)) (drop (8 * i + 8) old)))

pub written_all : (words octets old : List ℕ) (i : ℕ) → length words ≤ i → length old ≡ 8 * length words
    → octets ≡ image (take i words) ++ drop (8 * i) old → octets ≡ image words
written_all words octets old i h e inv =
    let none = drop_all (8 * i) old (omega arith) in
    let all = take_all i words h in
    inv ∙ rw (none, all) (append-nil (image words))

octets_back_at : (octets : List ℕ) (k : ℕ) → 8 * k + 8 ≤ length octets → ((i : ℕ) → get_or octets i 0 < 256)
    → octets_of (number_from_digits 256 (octets_at octets k)) ≡ octets_at octets k
octets_back_at octets k h small =
    rw (eight_from octets (8 * k) h, add-zero)
    (octets_back _ _ _ _ _ _ _ _ (small _) (small _) (small _) (small _) (small _) (small _) (small _) (small _))

-- The octets from word a on are the image of the words that they write.
image_from : (octets : List ℕ) (a n : ℕ) → length octets ≡ 8 * (a + n) → ((i : ℕ) → get_or octets i 0 < 256)
    → image (map (λ k. number_from_digits 256 (octets_at octets k)) (range_with_len a n)) ≡ drop (8 * a) octets
image_from octets a zero e small = sym (drop_all (8 * a) octets (omega arith))
image_from octets a (suc n) e small =
    let here = octets_back_at octets a (omega arith) small in
    let rest = image_from octets (a + 1) n (omega arith) small in
    let next : 8 * (a + 1) ≡ 8 * a + 8 = omega arith in
    let on = drop-drop 8 (8 * a) octets in
    let whole = take-append-drop 8 (drop (8 * a) octets) in
    cc

pub image_of_words : (octets : List ℕ) → length octets % 8 ≡ 0 → ((i : ℕ) → get_or octets i 0 < 256) → image (words_of octets) ≡ octets
image_of_words octets e small = image_from octets 0 (length octets / 8) (omega arith) small

pub read_back : ReadBack
read_back words small =
    let n : length (image words) / 8 ≡ length words = omega (arith, length_image words) in
    rw n
    (sym (fill_by_all (λ k. number_from_digits 256 (octets_at (image words) k)) words (length words) 0 refl
    (λ k h. sym (ap (number_from_digits 256) (octets_at_image words k h) ∙ word_back (get_or words k 0) (All-get_or (λ w. w < 2 ^ 64) words k 0 h small)))))

pub written_back : WrittenBack
written_back octets small e =
    image_of_words octets e
    (λ i. ⊎_elim (λ h. All-get_or (λ d. d < 256) octets i 0 h small) (λ h. rw (get_or_past octets i 0 h) (lit< tt)) (cases_lt i (length octets)))

pub one_image : OneImage
one_image a b ha hb e = sym (read_back a ha) ∙ (ap words_of e ∙ read_back b hb)

-- Words that were written and then read, both granted, are what they were.
pub carried : (live octets written words back : List ℕ) → AllBelowBase (2 ^ 64) live
    → Ok tt ≡ image_answer (length octets) (length live) → written ≡ after_write live octets
    → Ok tt ≡ image_answer (length written) (length words) → back ≡ after_read written words → back ≡ live
carried live octets written words back small wrote after-wrote took after-took =
    let out : written ≡ image live = after-wrote ∙ sym (granted (length octets) (length live) (image live) octets wrote) in
    let in-again : back ≡ words_of written = after-took ∙ sym (granted (length written) (length words) (words_of written) words took) in
    in-again ∙ (ap words_of out ∙ read_back live small)
