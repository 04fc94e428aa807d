-- Rows, consecutive words of one line each: where they go, what they spare, and what they leave.
use Rattle.std.proofs.Common.{◌≡◌, ℕ, zero, suc, ◌+◌, ◌*◌, ◌/◌, ◌%◌, ◌<◌, ◌≤◌, List, [], ◌∷◌, ◌++◌, length, get_or, set, refl, ap, ◌∙◌, arith}
use Rattle.std.proofs.lemmas.List.{length-set, get_or-set_same}
use Rattle.writes.specs.Writes.{Store, LineWrite, cost, applied, finished, Spared, Lined, Proper, Spares, single, row_stores, row}
use Rattle.writes.proofs.Mixes.{applied_spared}

pub length_row_stores : (i : ℕ) (ws : List ℕ) → length (row_stores i ws) ≡ length ws
length_row_stores i [] = refl
length_row_stores i (w ∷ ws) = ap suc (length_row_stores (suc i) ws)

-- A row spares the words before it, and those after it.
pub row_spared : (i k : ℕ) (ws : List ℕ) → i < k → Spared i (row_stores k ws)
row_spared i k [] h = tt
row_spared i k (w ∷ ws) h = ((λ e. omega arith), row_spared i (suc k) ws (omega arith))

pub row_spared_after : (i k : ℕ) (ws : List ℕ) → k + length ws ≤ i → Spared i (row_stores k ws)
row_spared_after i k [] h = tt
row_spared_after i k (w ∷ ws) h = ((λ e. omega arith), row_spared_after i (suc k) ws (omega arith))

-- A row that keeps within line l.
pub row_lined : (size l i : ℕ) (ws : List ℕ) → 8 * l ≤ i → i + length ws ≤ 8 * l + 8 → i + length ws ≤ size → Lined size l (row_stores i ws)
row_lined size l i [] a b c = tt
row_lined size l i (w ∷ ws) a b c = (omega arith, omega arith, row_spared i (suc i) ws (omega arith), row_lined size l (suc i) ws (omega arith) (omega arith) (omega arith))

-- A row within a line of the memory is a proper line write, and so is a single word.
pub row_proper : (size i : ℕ) (ws : List ℕ) → i < size → i % 8 + length ws ≤ 8 → i + length ws ≤ size → Proper size (row i ws ∷ [])
row_proper size i ws a b c = (omega arith, row_lined size (i / 8) i ws (omega arith) (omega arith) c, tt)

pub single_proper : (size : ℕ) (s : Store) → s.at < size → Proper size (single s ∷ [])
single_proper size s h = (omega arith, (h, refl, tt, tt), tt)

-- Proper line writes after proper line writes.
pub proper_append : (size : ℕ) (a b : List LineWrite) → Proper size a → Proper size b → Proper size (a ++ b)
proper_append size [] b p q = q
proper_append size (w ∷ a) b p q = (p.0, p.1, proper_append size a b p.2 q)

pub cost_append : (a b : List LineWrite) → cost (a ++ b) ≡ cost a + cost b
cost_append [] b = omega arith
cost_append (w ∷ a) b = omega (arith, cost_append a b)

pub finished_append : (words : List ℕ) (a b : List LineWrite) → finished words (a ++ b) ≡ finished (finished words a) b
finished_append words [] b = refl
finished_append words (w ∷ a) b = finished_append (applied words w.stores) a b

pub spares_append : (i : ℕ) (a b : List LineWrite) → Spares i a → Spares i b → Spares i (a ++ b)
spares_append i [] b p q = q
spares_append i (w ∷ a) b p q = (p.0, spares_append i a b p.1 q)

-- The words of a row once it is made.
pub row_made : (words : List ℕ) (i : ℕ) (ws : List ℕ) (k : ℕ) → i + length ws ≤ length words → k < length ws → get_or (applied words (row_stores i ws)) (i + k) 0 ≡ get_or ws k 0
row_made words i [] k h b = absurd (omega arith)
row_made words i (w ∷ ws) zero h b =
    let e : i + 0 ≡ i = omega arith in
    rw e (applied_spared (set words i w) (row_stores (suc i) ws) i (row_spared i (suc i) ws (omega arith)) ∙ get_or-set_same words i w 0 (omega arith))
row_made words i (w ∷ ws) (suc k) h b =
    let e : i + suc k ≡ suc i + k = omega arith in
    let s = length-set words i w in
    rw e (row_made (set words i w) (suc i) ws k (omega arith) (omega arith))
