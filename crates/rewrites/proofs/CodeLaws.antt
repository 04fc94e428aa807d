-- The words of a leaf's pairs in lines of eight, and the line writes of a leaf in two parts.
use Rattle.std.proofs.Common.{◌≡◌, ℕ, suc, ◌+◌, ◌*◌, ◌<◌, ◌≤◌, List, [], ◌∷◌, ◌++◌, length, length-append, get_or, min, Ok, Err, refl, ap, ◌∙◌, arith}
use Rattle.std.specs.Prelude.{flat_map}
use Rattle.refusal.specs.declared.Refusal.{Refusal}
use Rattle.memory.specs.Meaning.{Words}
use Rattle.leaves.specs.declared.leaf.Pair.{Pair}
use Rattle.leaves.specs.Layout.{leaf_at, slot_at}
use Rattle.writes.specs.Writes.{Answer, LineWrite, row, rows, lines_for, outcome, onward, perform}
use Rattle.writes.proofs.Onward.{counted_done, counted_stop, rows_over, rows_turn}
use Rattle.rewrites.specs.Rewrite.{pair_words, pair_lines, leaf_lines, leaf_steps}

pub length_words : (ps : List Pair) → length (flat_map pair_words ps) ≡ 4 * length ps
length_words [] = omega arith
length_words (p ∷ ps) = omega (arith, length_words ps)

-- The words of two pairs.
pub two_words : (ps : List Pair) (d : Pair) → length ps ≡ 2 → flat_map pair_words ps ≡ pair_words (get_or ps 0 d) ++ pair_words (get_or ps 1 d)
two_words [] d e = absurd (omega arith)
two_words (p ∷ []) d e = absurd (omega arith)
two_words (p ∷ q ∷ []) d e = refl
two_words (p ∷ q ∷ r ∷ ps) d e = absurd (omega arith)

words_in_lines : (k s : ℕ) (ps : List Pair) → rows (lines_for (length (flat_map pair_words ps))) (slot_at k s) (flat_map pair_words ps) ≡ pair_lines k s ps
words_in_lines k s [] = refl
words_in_lines k s (p ∷ []) = refl
words_in_lines k s (p ∷ q ∷ ps) =
    let ws = flat_map pair_words ps in
    let one : lines_for (length (flat_map pair_words (p ∷ q ∷ ps))) ≡ suc (lines_for (length ws)) = omega arith in
    let on : slot_at k s + 8 ≡ slot_at k (s + 2) = omega arith in
    rw (one, on) (ap (λ (x : List LineWrite). row (slot_at k s) (pair_words p ++ pair_words q) ∷ x) (words_in_lines k (s + 2) ps))

-- The steps of a leaf are those of its pairs' lines, and four for its first line.
pub steps_long : (n : ℕ) → 4 * n + lines_for (4 * n) + 4 ≡ leaf_steps n
steps_long n = omega arith

words_append : (ps qs : List Pair) → flat_map pair_words (ps ++ qs) ≡ flat_map pair_words ps ++ flat_map pair_words qs
words_append [] qs = refl
words_append (p ∷ ps) qs = ap (λ ws. pair_words p ++ ws) (words_append ps qs)

-- One line of pairs, and those that are left.
pub line_less : (ps two rest : List Pair) → ps ≡ two ++ rest → length two ≡ min 2 (length ps) → 0 < length ps
    → (length ps ≡ length two + length rest) × (lines_for (4 * length ps) ≡ suc (lines_for (4 * length rest))) × (length two ≤ 2) × (0 < length rest → length two ≡ 2)
line_less ps two rest parts long some = let sum = ap length parts ∙ length-append two rest in (sum, omega arith, omega arith, λ h. omega arith)

pub line_turn : (at next : ℕ) (ps two rest : List Pair) → ps ≡ two ++ rest → length two ≡ min 2 (length ps) → 0 < length ps → (0 < length rest → next ≡ at + 8)
    → rows (lines_for (length (flat_map pair_words ps))) at (flat_map pair_words ps) ≡ row at (flat_map pair_words two) ∷ rows (lines_for (length (flat_map pair_words rest))) next (flat_map pair_words rest)
line_turn at next ps two rest parts long some on =
    let all = length_words ps in
    let line = length_words two in
    let others = length_words rest in
    rows_turn at next (flat_map pair_words ps) (flat_map pair_words two) (flat_map pair_words rest) (ap (flat_map pair_words) parts ∙ words_append two rest) (omega arith) (omega arith) (λ h. on (omega arith))

-- No pair, no line write.
pub line_over : (at : ℕ) (ps : List Pair) → length ps ≡ 0 → rows (lines_for (length (flat_map pair_words ps))) at (flat_map pair_words ps) ≡ []
line_over at ps none = rows_over at (flat_map pair_words ps) (omega (arith, length_words ps))

-- The words of the pairs, written from slot 0 of leaf k on, and then its first line.
module _ (m n : Words) (before after k next at : ℕ) (ps : List Pair) (there : at ≡ slot_at k 0) where
  abbrev ws : List ℕ
  ws = flat_map pair_words ps

  lines : rows (lines_for (length ws)) at ws ≡ pair_lines k 0 ps
  lines = rw there (words_in_lines k 0 ps)

  pub leaf_stopped : {x : Refusal} → outcome n after (Err x) ≡ onward before (perform m (rows (lines_for (length ws)) at ws))
      → outcome n after (Err x) ≡ onward before (perform m (leaf_lines next (record { leaf = k; content = ps })))
  leaf_stopped {x = x} h = counted_stop m n before after (pair_lines k 0 ps) _ x (rw lines at h)

  pub leaf_ended : (last : Words) (end : ℕ) (a : Answer) → outcome n after (Ok tt) ≡ onward before (perform m (rows (lines_for (length ws)) at ws))
      → outcome last end a ≡ onward after (perform n (row (leaf_at k) (next ∷ length ps ∷ 0 ∷ []) ∷ []))
      → outcome last end a ≡ onward before (perform m (leaf_lines next (record { leaf = k; content = ps })))
  leaf_ended last end a h e = counted_done m n before after (pair_lines k 0 ps) (row (leaf_at k) (next ∷ length ps ∷ 0 ∷ []) ∷ []) (outcome last end a) (rw lines at h) e
