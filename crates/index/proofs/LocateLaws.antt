-- The walk from the root down.
use Rattle.std.proofs.Common.{◌≡◌, ℕ, zero, suc, ◌+◌, ◌-◌, ◌*◌, ◌<◌, ◌≤◌, min, List, [], ◌∷◌, ◌++◌, map, length, get_or, take, drop, sym, refl, ap, ◌∙◌, subst, ⊎_elim, arith, length-append, length-drop, length-take}
use mathlib.Core.List.{map-append}
use lib.ListN
use lib.ListN.{length-map}
use Rattle.std.proofs.lemmas.List.{get_or-map}
use Rattle.std.proofs.lemmas.Bool.{cond-true, cond-false, lt-ltb, le-leb, lt-leb, ne_eqb, cases_lt}
use Rattle.keys.specs.InWords.{WordKind, WordOrdered}
use Rattle.index.specs.declared.node.Entry.{Entry}
use Rattle.index.specs.declared.node.Node.{Node}
use Rattle.index.specs.declared.table.Index.{Index}
use Rattle.index.specs.Nodes.{items, bounds}
use Rattle.index.specs.Search.{search, First, last, front, concat, offset, Ascending, Full}
use Rattle.index.specs.Shape.{numbered, rows, lasts, lowest, table}
use Rattle.index.specs.Meaning.{grouped}
use Rattle.index.proofs.BuildLaws.{length_numbered, lowest_le, same_is, rows_at, table_low}
use Rattle.index.proofs.SearchLaws.{finds_first, finds_only, Filled, filled, through, lasts_ascend, concat_rows, rows_full, offset_rows}

pub length_grouped : (x : Index) → length (grouped x) ≡ x.used
unfolding grouped
length_grouped x =
    let low = lowest_le x.used in
    let s = x.size in
    simp (length-take, length-drop, length-map) (omega (arith, s.0, s.1, s.2, low))

-- A node's entries are those of the table.
pub node_is : (x : Index) (i : ℕ) (d : Node) → i < 91 → items (get_or x.nodes i d) ≡ table (grouped x) i
unfolding grouped
node_is x i d h =
    sym (get_or-map items x.nodes i d [] (omega (arith, x.size.2))) ∙ same_is _ _ (x.sound i h)

pub bounds_numbered : (n : ℕ) (bs : List (ℕ × ℕ)) → bounds (numbered n bs) ≡ bs
bounds_numbered n [] = refl
bounds_numbered n (b ∷ bs) = ap (λ xs. b ∷ xs) (bounds_numbered (n + 1) bs)

bounds_concat : (gs : List (List Entry)) → bounds (concat gs) ≡ concat (map bounds gs)
bounds_concat [] = refl
bounds_concat (g ∷ gs) = map-append (λ (e : Entry). e.bound) g (concat gs) ∙ ap (λ bs. bounds g ++ bs) (bounds_concat gs)

offset_bounds : (gs : List (List Entry)) (g : ℕ) → offset (map bounds gs) g ≡ offset gs g
offset_bounds [] g = refl
offset_bounds (x ∷ gs) zero = refl
offset_bounds (x ∷ gs) (suc g) = let n : length (bounds x) ≡ length x = simp length-map in rw n (ap (λ m. length x + m) (offset_bounds gs g))

lasts_is : (gs : List (List Entry)) → lasts gs ≡ map last (map bounds gs)
lasts_is [] = refl
lasts_is (g ∷ gs) = ap (λ bs. last (bounds g) ∷ bs) (lasts_is gs)

bounds_filled : (gs : List (List Entry)) → Filled gs → Filled (map bounds gs)
bounds_filled [] f = tt
bounds_filled (g ∷ gs) f = (simp length-map f.0, bounds_filled gs f.1)

rows_most : {X : Type 0} (k : ℕ) (xs : List X) → length (rows k xs) ≤ k
rows_most zero xs = omega arith
rows_most (suc k) [] = omega arith
rows_most (suc k) (x ∷ xs) = let more = rows_most k (drop 9 (x ∷ xs)) in omega arith

some_rows : {X : Type 0} (k : ℕ) (xs : List X) → 0 < length xs → 0 < length (rows (suc k) xs)
some_rows k [] h = h
some_rows k (x ∷ xs) h = omega arith

row_some : {X : Type 0} (rs : List (List X)) → Filled rs → (q : ℕ) → q < length rs → 0 < length (get_or rs q [])
row_some [] f q h = absurd (omega arith)
row_some (r ∷ rs) f zero h = f.0
row_some (r ∷ rs) f (suc q) h = row_some rs f.1 q (omega arith)

-- The place of a key by groups is its place in the whole list.
pub by_groups : (o : WordKind) (laws : WordOrdered o) (key : ℕ × ℕ) (gs : List (List Entry)) → 0 < length gs → Full gs → Ascending o (front (bounds (concat gs))) →
    {g s : ℕ} → g ≡ search o key (lasts gs) → s ≡ search o key (bounds (get_or gs g [])) → offset gs g + s ≡ search o key (bounds (concat gs))
by_groups o laws key gs h f a {g} {s} eg es =
    let up : Ascending o (front (concat (map bounds gs))) = rw bounds_concat at a in
    let go = through o laws key (map bounds gs) (simp length-map h) (bounds_filled gs (filled gs f)) up in
    let at : search o key (map last (map bounds gs)) ≡ g = ap (search o key) (sym (lasts_is gs)) ∙ sym eg in
    let inner : search o key (get_or (map bounds gs) g []) ≡ s = ap (search o key) (ListN.get_or-map bounds gs g []) ∙ sym es in
    let there : offset (map bounds gs) g ≡ offset gs g = offset_bounds gs g in
    sym (ap (search o key) (bounds_concat gs) ∙ go ∙ rw (at, there, inner))

search_one : (o : WordKind) (key : ℕ × ℕ) (bs : List (ℕ × ℕ)) → length bs ≤ 1 → search o key bs ≡ 0
search_one o key [] h = refl
search_one o key (b ∷ []) h = refl
search_one o key (b ∷ c ∷ bs) h = absurd (omega arith)

pub only_group : (o : WordKind) (key : ℕ × ℕ) (gs : List (List Entry)) → length gs ≤ 1 → 0 ≡ search o key (lasts gs)
only_group o key gs h = sym (search_one o key (lasts gs) (simp length-map h))

-- The nodes above up to nine groups, and above more.
module _ (gs : List (List Entry)) where
  module _ (h : 1 < length gs) (k : length gs ≤ 9) where
    few_low : lowest (length gs) ≡ 1
    few_low = cond-false _ _ _ (lt-leb (length gs) 1 h) ∙ cond-true _ _ _ (le-leb (length gs) 9 k)

    few_root : table gs 0 ≡ numbered 1 (lasts gs)
    few_root = cond-true _ _ _ (lt-ltb 0 (lowest (length gs)) (omega (arith, few_low))) ∙ cond-true _ _ _ (le-leb (length gs) 9 k)

    pub few_length : length (table gs 0) ≡ length gs
    few_length = ap length few_root ∙ length_numbered 1 (lasts gs) ∙ length-map gs (λ g. last (bounds g))

    pub few_group : (o : WordKind) (key : ℕ × ℕ) {g : ℕ} → g ≡ search o key (bounds (table gs 0)) → g ≡ search o key (lasts gs)
    few_group o key e = e ∙ ap (search o key) (ap bounds few_root ∙ bounds_numbered 1 (lasts gs))

  module _ (h : 9 < length gs) where
    many_low : lowest (length gs) ≡ 10
    many_low = cond-false _ _ _ (lt-leb (length gs) 1 (omega arith)) ∙ cond-false _ _ _ (lt-leb (length gs) 9 h)

    many_root : table gs 0 ≡ numbered 1 (map last (rows 9 (lasts gs)))
    many_root = cond-true _ _ _ (lt-ltb 0 (lowest (length gs)) (omega (arith, many_low))) ∙ cond-false _ _ _ (lt-leb (length gs) 9 h)

    many_row : (q : ℕ) → q < 9 → table gs (1 + q) ≡ numbered (9 * (1 + q) + 1) (get_or (rows 9 (lasts gs)) q [])
    many_row q k =
        let at : 1 + q - 1 ≡ q = omega arith in
        cond-true _ _ _ (lt-ltb (1 + q) (lowest (length gs)) (omega (arith, many_low))) ∙ cond-false _ _ _ (lt-leb (length gs) 9 h) ∙ cond-false _ _ _ (ne_eqb (1 + q) 0 (λ e. omega arith))
        ∙ ap (λ j. numbered (9 * (1 + q) + 1) (get_or (rows 9 (lasts gs)) j [])) at

    root_length : length (table gs 0) ≡ length (rows 9 (lasts gs))
    root_length = ap length many_root ∙ length_numbered 1 (map last (rows 9 (lasts gs))) ∙ length-map (rows 9 (lasts gs)) last

    root_some : 0 < length (table gs 0)
    root_some = rw root_length (some_rows 8 (lasts gs) (simp length-map (omega arith)))

    module _ (q : ℕ) (in-root : q < length (table gs 0)) where
      q_within : q < length (rows 9 (lasts gs))
      q_within = rw root_length at in-root

      q_small : q < 9
      q_small = omega (arith, q_within, rows_most 9 (lasts gs))

      row_length : length (table gs (1 + q)) ≡ length (get_or (rows 9 (lasts gs)) q [])
      row_length = rw (many_row q q_small) (length_numbered _ (get_or (rows 9 (lasts gs)) q []))

      pub row_has : 0 < length (table gs (1 + q))
      row_has = rw row_length (row_some (rows 9 (lasts gs)) (rows_full 9 (lasts gs)) q q_within)

      pub many_within : (j : ℕ) → j < length (table gs (1 + q)) → 9 * q + j < length gs
      many_within j k =
          let row : length (table gs (1 + q)) ≡ length (take 9 (drop (9 * q) (lasts gs))) = row_length ∙ ap length (rows_at 9 (lasts gs) q q_small) in
          let long : length (take 9 (drop (9 * q) (lasts gs))) ≡ min 9 (length gs - 9 * q) = simp (length-take, length-drop, length-map) in
          omega (arith, row, long, k)

      pub many_group : (o : WordKind) (laws : WordOrdered o) (key : ℕ × ℕ) → length gs ≤ 81 → Full gs → Ascending o (front (bounds (concat gs))) → {j : ℕ}
          → q ≡ search o key (bounds (table gs 0)) → j ≡ search o key (bounds (table gs (1 + q))) → 9 * q + j ≡ search o key (lasts gs)
      many_group o laws key small f a {j} eq ej =
          let rs = rows 9 (lasts gs) in
          let whole : concat rs ≡ lasts gs = concat_rows 9 (lasts gs) (simp length-map small) in
          let up : Ascending o (front (lasts gs)) = rw (lasts_is gs) (lasts_ascend o (map bounds gs) (bounds_filled gs (filled gs f)) (rw bounds_concat at a)) in
          let go = through o laws key rs (some_rows 8 (lasts gs) (simp length-map (omega arith))) (rows_full 9 (lasts gs)) (rw whole up) in
          let at : search o key (map last rs) ≡ q = sym (eq ∙ ap (search o key) (ap bounds many_root ∙ bounds_numbered 1 (map last rs))) in
          let inner : search o key (get_or rs q []) ≡ j = sym (ej ∙ ap (search o key) (ap bounds (many_row q q_small) ∙ bounds_numbered _ (get_or rs q []))) in
          let before : offset rs q ≡ 9 * q = offset_rows 9 (lasts gs) q q_within in
          sym (ap (search o key) (sym whole) ∙ go ∙ rw (at, before, inner))

pub root_has : (gs : List (List Entry)) → 1 < length gs → 0 < length (table gs 0)
root_has gs h = ⊎_elim (λ k. root_some gs k) (λ k. omega (arith, few_length gs h k)) (cases_lt 9 (length gs))

-- The node of a group.
pub low_node : (x : Index) (low group : ℕ) → low ≡ lowest x.used → group < length (grouped x) → (low + group < 91) × (table (grouped x) (low + group) ≡ get_or (grouped x) group [])
low_node x low group is h =
    let n = length_grouped x in
    let at : low ≡ lowest (length (grouped x)) = is ∙ ap lowest (sym n) in
    (omega (arith, is, h, n, x.size.1, lowest_le x.used), ap (λ m. table (grouped x) (m + group)) at ∙ table_low (grouped x) group)

-- What the search along all bounds comes to is the first place where the key belongs, and the only one.
module _ (o : WordKind) (key : ℕ × ℕ) (bs : List (ℕ × ℕ)) {n : ℕ} (is : n ≡ search o key bs) where
  pub then_first : 0 < length bs → First o key bs n
  then_first some = subst (First o key bs) (sym is) (finds_first o key bs some)

  pub then_only : (p : ℕ) → First o key bs p → n ≡ p
  then_only p f = is ∙ finds_only o key bs p f

concat_some : (gs : List (List Entry)) → 0 < length gs → 0 < length (get_or gs 0 []) → 0 < length (bounds (concat gs))
concat_some [] h k = absurd (omega arith)
concat_some (g ∷ gs) h k = simp (length-map, length-append) (omega arith)

pub leaves_some : (x : Index) → 0 < length (bounds (concat (grouped x)))
unfolding grouped
leaves_some x =
    let some : 0 < length (grouped x) = omega (arith, length_grouped x, x.size.0) in
    concat_some (grouped x) some (x.full 0 some)
