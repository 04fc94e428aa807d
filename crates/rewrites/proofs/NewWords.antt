-- The words that new leaves leave.
use Rattle.std.proofs.Common.{◌≡◌, ℕ, ◌+◌, ◌/◌, ◌<◌, ◌≤◌, false, eqb, ◌⊎◌, List, [], ◌∷◌, ◌++◌, length, get_or, set, sym, refl, ◌∙◌, subst, inl, inr, ⊎_elim, add-zero, arith, get_or-set_other}
use Rattle.std.proofs.lemmas.Bool.{cases_lt, eqb-false, or_parts}
use Rattle.leaves.specs.declared.leaf.Pair.{Pair}
use Rattle.leaves.specs.Layout.{leaf_at, slot_at, element}
use Rattle.leaves.specs.Opening.{member}
use Rattle.writes.specs.Writes.{applied, finished, Spares, Proper, row_stores}
use Rattle.writes.proofs.Mixes.{length_applied, applied_spared}
use Rattle.writes.proofs.Cuts.{length_finished, finished_spares}
use Rattle.writes.proofs.Places.{row_spared, row_spared_after, row_lined, row_made, spares_append, proper_append, finished_append}
use Rattle.books.specs.Opens.{Distinct}
use Rattle.appends.specs.Append.{signed}
use Rattle.rewrites.specs.Rewrite.{Filling, leaf_numbers, pair_words, pair_lines, leaf_lines, leaves_lines, first_leaf, SomePairs, Fillings}
use Rattle.appends.proofs.AppendWords.{Clear, made_of, one_stands, element_same}
use Rattle.rewrites.proofs.NewLeaves.{Written, Filled, AllFilled}

-- Outside leaf k.
abbrev pub Off : ℕ → ℕ → Type 0
Off k i = (i < leaf_at k) ⊎ (leaf_at k + 72 ≤ i)

module _ (k : ℕ) where
  pair_lines_spare : (s : ℕ) (ps : List Pair) (i : ℕ) → Clear k s (s + length ps) i → Spares i (pair_lines k s ps)
  pair_lines_spare s [] i h = tt
  pair_lines_spare s (p ∷ []) i h =
      let l : length (pair_words p) ≡ 4 = refl in
      (⊎_elim (λ b. row_spared i (slot_at k s) (pair_words p) b) (λ a. row_spared_after i (slot_at k s) (pair_words p) (omega arith)) h, tt)
  pair_lines_spare s (p ∷ q ∷ ps) i h =
      let l : length (pair_words p ++ pair_words q) ≡ 8 = refl in
      ⊎_elim
      (λ b. (row_spared i (slot_at k s) (pair_words p ++ pair_words q) b, pair_lines_spare (s + 2) ps i (inl (omega arith))))
      (λ a. (row_spared_after i (slot_at k s) (pair_words p ++ pair_words q) (omega arith), pair_lines_spare (s + 2) ps i (inr (omega arith))))
      h

  pub written_same : (a b : List ℕ) (s : ℕ) (ps : List Pair) → ((i : ℕ) → slot_at k s ≤ i → i < slot_at k (s + length ps) → get_or a i 0 ≡ get_or b i 0) → Written b k s ps → Written a k s ps
  written_same a b s [] h n = tt
  written_same a b s (p ∷ ps) h n = (element_same k p.key a b s (λ i l u. h i l (omega arith)) ∙ n.0, written_same a b (s + 1) ps (λ i l u. h i (omega arith) (omega arith)) n.1)

  two_stand : (m : List ℕ) (s : ℕ) (p q : Pair) → slot_at k (s + 2) ≤ length m
      → (element (applied m (row_stores (slot_at k s) (pair_words p ++ pair_words q))) k s ≡ signed p.key (1, p.reading))
      × (element (applied m (row_stores (slot_at k s) (pair_words p ++ pair_words q))) k (s + 1) ≡ signed q.key (1, q.reading))
  two_stand m s p q h =
      let ws = pair_words p ++ pair_words q in
      let at : (i j : ℕ) → i ≡ slot_at k s + j → j < 8 → get_or (applied m (row_stores (slot_at k s) (pair_words p ++ pair_words q))) i 0 ≡ get_or (pair_words p ++ pair_words q) j 0 = λ i j e l. rw e (row_made m (slot_at k s) (pair_words p ++ pair_words q) j (omega arith) l) in (
        made_of p.key (1, p.reading) _ _ _ _ (at (slot_at k s) 0 (omega arith) (omega arith)) (at (slot_at k s + 1) 1 (omega arith) (omega arith)) (at (slot_at k s + 2) 2 (omega arith) (omega arith)) (at (slot_at k s + 3) 3 (omega arith) (omega arith)),
        made_of q.key (1, q.reading) _ _ _ _ (at (slot_at k (s + 1)) 4 (omega arith) (omega arith)) (at (slot_at k (s + 1) + 1) 5 (omega arith) (omega arith)) (at (slot_at k (s + 1) + 2) 6 (omega arith) (omega arith)) (at (slot_at k (s + 1) + 3) 7 (omega arith) (omega arith)),
      )

  pair_lines_written : (m : List ℕ) (s : ℕ) (ps : List Pair) → slot_at k (s + length ps) ≤ length m → Written (finished m (pair_lines k s ps)) k s ps
  pair_lines_written m s [] h = tt
  pair_lines_written m s (p ∷ []) h = (one_stands k p.key m s (1, p.reading) (omega arith), tt)
  pair_lines_written m s (p ∷ q ∷ ps) h =
      let m' = applied m (row_stores (slot_at k s) (pair_words p ++ pair_words q)) in
      let new = finished m' (pair_lines k (s + 2) ps) in
      let long : length m' ≡ length m = length_applied m (row_stores (slot_at k s) (pair_words p ++ pair_words q)) in
      let both = two_stand m s p q (omega arith) in
      let e : s + 1 + 1 ≡ s + 2 = omega arith in
      let stay : (i : ℕ) → i < slot_at k (s + 2) → get_or new i 0 ≡ get_or m' i 0 = λ i u. finished_spares m' (pair_lines k (s + 2) ps) i (pair_lines_spare (s + 2) ps i (inl u)) in (
        element_same k p.key new m' s (λ i l u. stay i (omega arith)) ∙ both.0,
        (element_same k q.key new m' (s + 1) (λ i l u. stay i (omega arith)) ∙ both.1, rw e (pair_lines_written m' (s + 2) ps (omega arith))),
      )

  pair_lines_proper : (size s h : ℕ) (ps : List Pair) → s ≡ h + h → slot_at k (s + length ps) ≤ size → Proper size (pair_lines k s ps)
  pair_lines_proper size s h [] even l = tt
  pair_lines_proper size s h (p ∷ []) even l =
      let n : length (pair_words p) ≡ 4 = refl in
      (omega arith, row_lined size (slot_at k s / 8) (slot_at k s) (pair_words p) (omega arith) (omega arith) (omega arith), tt)
  pair_lines_proper size s h (p ∷ q ∷ ps) even l =
      let n : length (pair_words p ++ pair_words q) ≡ 8 = refl in
      (omega arith, row_lined size (slot_at k s / 8) (slot_at k s) (pair_words p ++ pair_words q) (omega arith) (omega arith) (omega arith), pair_lines_proper size (s + 2) (h + 1) ps (omega arith) (omega arith))

-- One new leaf.
module _ (next : ℕ) (f : Filling) (few : length f.content ≤ 16) where
  leaf_lines_spare : (i : ℕ) → Off f.leaf i → Spares i (leaf_lines next f)
  leaf_lines_spare i h =
      let k = f.leaf in
      let l : length (next ∷ length f.content ∷ 0 ∷ []) ≡ 3 = refl in
      spares_append i (pair_lines f.leaf 0 f.content) _
      (pair_lines_spare f.leaf 0 f.content i (⊎_elim (λ b. inl (omega arith)) (λ a. inr (omega arith)) h))
      (⊎_elim (λ b. row_spared i (leaf_at f.leaf) (next ∷ length f.content ∷ 0 ∷ []) b) (λ a. row_spared_after i (leaf_at f.leaf) (next ∷ length f.content ∷ 0 ∷ []) (omega arith)) h, tt)

  pub leaf_lines_proper : (size : ℕ) → leaf_at f.leaf + 72 ≤ size → Proper size (leaf_lines next f)
  leaf_lines_proper size h =
      let l : length (next ∷ length f.content ∷ 0 ∷ []) ≡ 3 = refl in
      proper_append size (pair_lines f.leaf 0 f.content) _
      (pair_lines_proper f.leaf size 0 0 f.content refl (omega arith))
      (omega arith, row_lined size (leaf_at f.leaf / 8) (leaf_at f.leaf) (next ∷ length f.content ∷ 0 ∷ []) (omega arith) (omega arith) (omega arith), tt)

  leaf_lines_filled : (m : List ℕ) → leaf_at f.leaf + 72 ≤ length m → Filled (finished m (leaf_lines next f)) next f
  leaf_lines_filled m h =
      let k = f.leaf in
      let ws = next ∷ length f.content ∷ 0 ∷ [] in
      let m' = finished m (pair_lines f.leaf 0 f.content) in
      let long : length m' ≡ length m = length_finished m (pair_lines f.leaf 0 f.content) in
      let n : length ws ≡ 3 = refl in
      let is : finished m (leaf_lines next f) ≡ applied m' (row_stores (leaf_at k) ws) = finished_append m (pair_lines f.leaf 0 f.content) _ in
      let at : (j : ℕ) → j < 3 → get_or (applied m' (row_stores (leaf_at k) ws)) (leaf_at k + j) 0 ≡ get_or ws j 0 = λ j l. row_made m' (leaf_at k) ws j (omega arith) l in
      subst (λ (x : List ℕ). Filled x next f) (sym is) (record {
        next_is = rw add-zero at (at 0 (omega arith));
        count = at 1 (omega arith);
        form = at 2 (omega arith);
        written = written_same f.leaf (applied m' (row_stores (leaf_at k) ws)) m' 0 f.content (λ i l u. applied_spared m' (row_stores (leaf_at k) ws) i (row_spared_after i (leaf_at k) ws (omega arith))) (pair_lines_written f.leaf m 0 f.content (omega arith));
      })

  filled_same : (a b : List ℕ) → ((i : ℕ) → leaf_at f.leaf ≤ i → i < leaf_at f.leaf + 72 → get_or a i 0 ≡ get_or b i 0) → Filled b next f → Filled a next f
  filled_same a b same h = record {
    next_is = same (leaf_at f.leaf) (omega arith) (omega arith) ∙ h.next_is;
    count = same (leaf_at f.leaf + 1) (omega arith) (omega arith) ∙ h.count;
    form = same (leaf_at f.leaf + 2) (omega arith) (omega arith) ∙ h.form;
    written = written_same f.leaf a b 0 f.content (λ i l u. same i (omega arith) (omega arith)) h.written;
  }

pub leaves_lines_spare : (fs : List Filling) (post : List ℕ) (i : ℕ) → Fillings SomePairs fs → Fillings (λ f. Off f.leaf i) fs → Spares i (leaves_lines fs post)
leaves_lines_spare [] post i few h = tt
leaves_lines_spare (f ∷ fs) post i few h = spares_append i (leaf_lines (first_leaf (leaf_numbers fs ++ post)) f) (leaves_lines fs post) (leaf_lines_spare _ f few.0.1 i h.0) (leaves_lines_spare fs post i few.1 h.1)

pub leaves_lines_proper : (size : ℕ) (fs : List Filling) (post : List ℕ) → Fillings SomePairs fs → Fillings (λ f. leaf_at f.leaf + 72 ≤ size) fs → Proper size (leaves_lines fs post)
leaves_lines_proper size [] post few h = tt
leaves_lines_proper size (f ∷ fs) post few h = proper_append size (leaf_lines (first_leaf (leaf_numbers fs ++ post)) f) (leaves_lines fs post) (leaf_lines_proper _ f few.0.1 size h.0) (leaves_lines_proper size fs post few.1 h.1)

-- The words of one leaf are off another.
pub off_other : (k j i : ℕ) → 1 ≤ k → 1 ≤ j → (k ≡ j → ⊥) → leaf_at j ≤ i → i < leaf_at j + 72 → Off k i
off_other k j i a b other l u = ⊎_elim (λ less. inr (omega arith)) (λ more. inl (omega arith)) (cases_lt k j)

pub off_others : (j i : ℕ) (fs : List Filling) → 1 ≤ j → Fillings (λ f. 1 ≤ f.leaf) fs → member j (leaf_numbers fs) ≡ false → leaf_at j ≤ i → i < leaf_at j + 72 → Fillings (λ f. Off f.leaf i) fs
off_others j i [] a b other l u = tt
off_others j i (f ∷ fs) a b other l u =
    let (here, more) = or_parts (eqb j f.leaf) _ other in
    (off_other f.leaf j i b.0 a (λ e. eqb-false j f.leaf here (sym e)) l u, off_others j i fs a b.1 more l u)

pub leaves_lines_filled : (m : List ℕ) (fs : List Filling) (post : List ℕ) → Fillings SomePairs fs → Fillings (λ f. 1 ≤ f.leaf) fs → Fillings (λ f. leaf_at f.leaf + 72 ≤ length m) fs → Distinct (leaf_numbers fs) → AllFilled (finished m (leaves_lines fs post)) post fs
leaves_lines_filled m [] post few some inside distinct = tt
leaves_lines_filled m (f ∷ fs) post few some inside distinct =
    let next = first_leaf (leaf_numbers fs ++ post) in
    let m' = finished m (leaf_lines next f) in
    let long : length m' ≡ length m = length_finished m (leaf_lines next f) in
    let is : finished m (leaves_lines (f ∷ fs) post) ≡ finished m' (leaves_lines fs post) = finished_append m (leaf_lines next f) (leaves_lines fs post) in
    subst (λ (x : List ℕ). AllFilled x post (f ∷ fs)) (sym is) (
      filled_same next f few.0.1 (finished m' (leaves_lines fs post)) m' (λ i l u. finished_spares m' (leaves_lines fs post) i (leaves_lines_spare fs post i few.1 (off_others f.leaf i fs some.0 some.1 distinct.0 l u))) (leaf_lines_filled next f few.0.1 m inside.0),
      leaves_lines_filled m' fs post few.1 some.1 (rw long inside.1) distinct.1,
    )

-- A store off the new leaves.
pub all_filled_set : (b post : List ℕ) (fs : List Filling) (i w : ℕ) → Fillings SomePairs fs → Fillings (λ f. Off f.leaf i) fs → AllFilled b post fs → AllFilled (set b i w) post fs
all_filled_set b post [] i w few off h = tt
all_filled_set b post (f ∷ fs) i w few off h = (
  filled_same _ f few.0.1 (set b i w) b (λ j l u. get_or-set_other b i j w 0 (λ e. ⊎_elim (λ x. omega arith) (λ y. omega arith) off.0)) h.0,
  all_filled_set b post fs i w few.1 off.1 h.1,
)
