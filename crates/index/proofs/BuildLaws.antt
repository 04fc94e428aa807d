-- Each node of an index built anew.
use Rattle.std.proofs.Common.{◌≡◌, ℕ, zero, suc, ◌+◌, ◌-◌, ◌*◌, ◌<◌, ◌≤◌, min, true, cond, ltb, leb, List, [], ◌∷◌, ◌++◌, map, length, get_or, take, drop, sym, refl, ap, ◌∙◌, ⊎_elim, append_assoc, append-nil, arith, length-append, length-drop, length-take, get_or-drop, take_all, get_or-take, set, get_or-set_other, drop-drop, ext_get_or}
use lib.ListN.{length-map}
use mathlib.Core.List.{map-append}
use Rattle.std.proofs.lemmas.Bool.{cond-true, cond-false, cond_both, le-ltb, lt-ltb, le-leb, lt-leb, eq-eqb, ne_eqb, cases_lt, and_parts, and_from, eqb-true, false≢true}
use Rattle.std.proofs.lemmas.List.{drop_all, drop_at, take_at, map_more, nil_from_length, get_or-map, take-map, drop-map}
use Rattle.std.proofs.lemmas.Grind.{get_or-set_at}
use lib.Seq.{map-set}
use Rattle.index.specs.declared.node.Entry.{Entry}
use Rattle.index.specs.declared.node.Node.{Node}
use Rattle.fixed_vec.specs.Items.{joined}
use Rattle.index.specs.Nodes.{items, bounds, entry}
use Rattle.index.specs.Search.{concat, last, Full, Small}
use Rattle.fixed_vec.proofs.Rooms.{joined_all}
use Rattle.index.specs.Shape.{numbered, rows, singles, lasts, table, upper, lowest, same, groups, Sound}

pub length_numbered : (n : ℕ) (bs : List (ℕ × ℕ)) → length (numbered n bs) ≡ length bs
length_numbered n [] = refl
length_numbered n (b ∷ bs) = ap suc (length_numbered (n + 1) bs)

numbered_more : (n : ℕ) (bs : List (ℕ × ℕ)) (b : ℕ × ℕ) → numbered n (bs ++ (b ∷ [])) ≡ numbered n bs ++ (entry (n + length bs) b ∷ [])
numbered_more n [] b = let z : n + 0 ≡ n = omega arith in rw z
numbered_more n (c ∷ bs) b = let z : n + suc (length bs) ≡ n + 1 + length bs = omega arith in rw z (ap (λ xs. entry n c ∷ xs) (numbered_more (n + 1) bs b))

-- One more child.
pub children_turn : (n : ℕ) (es : List Entry) (i : ℕ) (d : Entry) {out more : List Entry} → i < length es → length es ≤ 9 → out ≡ numbered n (bounds (take i es)) → length out ≡ i
    → more ≡ joined 9 out (entry (n + i) (get_or es i d).bound ∷ []) → (more ≡ numbered n (bounds (take (i + 1) es))) × (length more ≡ i + 1)
children_turn n es i d {out} {more} h k is long push =
    let b = (get_or es i d).bound in
    let added : more ≡ out ++ (entry (n + i) b ∷ []) = push ∙ joined_all 9 out (entry (n + i) b ∷ []) (omega arith) in
    let at : length (bounds (take i es)) ≡ i = sym (length_numbered n (bounds (take i es))) ∙ sym (ap length is) ∙ long in
    let same : numbered n (bounds (take (i + 1) es)) ≡ numbered n (bounds (take i es)) ++ (entry (n + i) b ∷ []) =
    ap (numbered n) (map_more (λ (e : Entry). e.bound) es i d h) ∙ rw at at (numbered_more n (bounds (take i es)) b) in
    (added ∙ ap (λ xs. xs ++ (entry (n + i) b ∷ [])) is ∙ sym same, omega (arith, simp length-append at (ap length added)))

-- Rows of nine.
rows_next : {X : Type 0} (k : ℕ) (xs row rest : List X) → xs ≡ row ++ rest → length row ≡ min 9 (length xs) → 0 < length xs → rows (suc k) xs ≡ row ∷ rows k rest
rows_next k [] row rest e n h = absurd (omega arith)
rows_next k (x ∷ xs) row rest e n h =
    let long : length (x ∷ xs) ≡ length row + length rest = ap length e ∙ length-append row rest in
    let first : take 9 (row ++ rest) ≡ row =
    ⊎_elim
    (λ (l : length row < 9). rw (nil_from_length rest (omega arith), append-nil) (take_all 9 row (omega arith)))
    (λ (l : 9 ≤ length row). take_at row rest 9 (omega arith))
    (cases_lt (length row) 9) in
    let second : drop 9 (row ++ rest) ≡ rest =
    ⊎_elim
    (λ (l : length row < 9). rw (nil_from_length rest (omega arith), append-nil) (drop_all 9 row (omega arith)))
    (λ (l : 9 ≤ length row). drop_at row rest 9 (omega arith))
    (cases_lt (length row) 9) in
    ap (λ ys. take 9 ys ∷ rows k (drop 9 ys)) e ∙ ap (λ ys. ys ∷ rows k (drop 9 (row ++ rest))) first ∙ ap (λ ys. row ∷ rows k ys) second

no_more_rows : {X : Type 0} (k : ℕ) → rows {X = X} k [] ≡ []
no_more_rows zero = refl
no_more_rows (suc k) = refl

pub rows_at : {X : Type 0} (k : ℕ) (xs : List X) (q : ℕ) → q < k → get_or (rows k xs) q [] ≡ take 9 (drop (9 * q) xs)
rows_at zero xs q h = absurd (omega arith)
rows_at (suc k) [] q h = sym (ap (take 9) (drop_all (9 * q) [] (omega arith)))
rows_at (suc k) (x ∷ xs) zero h = refl
rows_at (suc k) (x ∷ xs) (suc q) h =
    let z : 9 * suc q ≡ 9 + 9 * q = omega arith in
    rows_at k (drop 9 (x ∷ xs)) q (omega arith) ∙ ap (take 9) (drop-drop (9 * q) 9 (x ∷ xs)) ∙ rw z

last_at : (xs : List (ℕ × ℕ)) → 0 < length xs → last xs ≡ get_or xs (length xs - 1) (0, 0)
last_at [] h = absurd (omega arith)
last_at (x ∷ []) h = refl
last_at (x ∷ y ∷ xs) h = last_at (y ∷ xs) (omega arith) ∙ (let z : length (x ∷ y ∷ xs) - 1 ≡ suc (length (y ∷ xs) - 1) = omega arith in rw z)

-- One more child of the root, the row first in the rest.
pub root_turn : (q : ℕ) (d : Entry) (rest row more out : List Entry) {out' all : List Entry} → rest ≡ row ++ more → length row ≡ min 9 (length rest) → 0 < length rest → 9 * q + length rest ≤ 81 → length out ≡ q
    → out ++ numbered (1 + q) (map last (rows (9 - q) (bounds rest))) ≡ all → out' ≡ joined 9 out (entry (1 + q) (get_or row (length row - 1) d).bound ∷ [])
    → (out' ++ numbered (1 + (q + 1)) (map last (rows (9 - (q + 1)) (bounds more))) ≡ all) × (length out' ≡ q + 1) × (9 * (q + 1) + length more ≤ 81)
root_turn q d rest row more out {out'} {all} e n h room long so push =
    let b = (get_or row (length row - 1) d).bound in
    let parts : length rest ≡ length row + length more = ap length e ∙ length-append row more in
    let fuel : 9 - q ≡ suc (9 - (q + 1)) = omega arith in
    let number : 1 + (q + 1) ≡ 1 + q + 1 = omega arith in
    let bounds_parts : bounds rest ≡ bounds row ++ bounds more = ap bounds e ∙ map-append (λ (x : Entry). x.bound) row more in
    let many : length (bounds rest) ≡ length rest = simp length-map in
    let few : length (bounds row) ≡ length row = simp length-map in
    let next : rows (suc (9 - (q + 1))) (bounds rest) ≡ bounds row ∷ rows (9 - (q + 1)) (bounds more) = rows_next (9 - (q + 1)) (bounds rest) (bounds row) (bounds more) bounds_parts (omega arith) (omega arith) in
    let bound : last (bounds row) ≡ b = last_at (bounds row) (omega arith) ∙ rw few (get_or-map (λ (x : Entry). x.bound) row (length row - 1) d (0, 0) (omega arith)) in
    let was : numbered (1 + q) (map last (rows (9 - q) (bounds rest))) ≡ entry (1 + q) b ∷ numbered (1 + (q + 1)) (map last (rows (9 - (q + 1)) (bounds more))) = rw (fuel, next, bound, number) in
    let added : out' ≡ out ++ (entry (1 + q) b ∷ []) = push ∙ joined_all 9 out (entry (1 + q) b ∷ []) (omega arith) in
    (rw added (append_assoc out _ _ ∙ ap (λ xs. out ++ xs) (sym was) ∙ so), omega (arith, simp length-append at (ap length added)), omega arith)

pub root_end : (q : ℕ) (rest out : List Entry) {all : List Entry} → length rest ≡ 0 → out ++ numbered (1 + q) (map last (rows (9 - q) (bounds rest))) ≡ all → out ≡ all
root_end q rest out h so =
    sym (append-nil out) ∙ ap (λ xs. out ++ numbered (1 + q) (map last xs)) (sym (no_more_rows (9 - q))) ∙ ap (λ xs. out ++ numbered (1 + q) (map last (rows (9 - q) (bounds xs)))) (sym (nil_from_length rest h)) ∙ so

lasts_singles : (es : List Entry) → lasts (singles es) ≡ bounds es
lasts_singles [] = refl
lasts_singles (e ∷ es) = ap (λ bs. e.bound ∷ bs) (lasts_singles es)

table_singles : (es : List Entry) (i : ℕ) → table (singles es) i ≡ cond (ltb i (lowest (length es))) (upper (length es) (bounds es) i) (get_or (singles es) (i - lowest (length es)) [])
table_singles es i =
    let n : length (singles es) ≡ length es = simp length-map in
    rw (n, lasts_singles es)

pub lowest_le : (n : ℕ) → lowest n ≤ 10
lowest_le n = cond_both (leb n 1) 0 _ (λ m. m ≤ 10) (λ t. omega arith) (λ f. cond_both (leb n 9) 1 10 (λ m. m ≤ 10) (λ t. omega arith) (λ g. omega arith))

bounds_part : (es : List Entry) (n m : ℕ) → bounds (take n (drop m es)) ≡ take n (drop m (bounds es))
bounds_part es n m = sym (take-map (λ (e : Entry). e.bound) n (drop m es)) ∙ ap (take n) (sym (drop-map (λ (e : Entry). e.bound) m es))

module _ (es : List Entry) (i : ℕ) {low : ℕ} {p : List Entry} (is : low ≡ lowest (length es)) where
  module _ (h : i < low) where
    above : p ≡ upper (length es) (bounds es) i → p ≡ table (singles es) i
    above e = e ∙ sym (cond-true _ _ _ (lt-ltb i (lowest (length es)) (rw is at h))) ∙ sym (table_singles es i)

    pub made_one : length es ≤ 9 → p ≡ numbered 1 (bounds es) → p ≡ table (singles es) i
    made_one k e = above (e ∙ sym (cond-true _ _ _ (le-leb (length es) 9 k)))

    pub made_root : 9 < length es → i ≡ 0 → p ≡ numbered 1 (map last (rows 9 (bounds es))) → p ≡ table (singles es) i
    made_root k z e = above (e ∙ sym (cond-true _ _ _ (eq-eqb i 0 z)) ∙ sym (cond-false _ _ _ (lt-leb (length es) 9 k)))

    pub made_row : 9 < length es → (i ≡ 0 → ⊥) → {row : List Entry} → row ≡ take 9 (drop (9 * (i - 1)) es) → p ≡ numbered (9 * i + 1) (bounds row) → p ≡ table (singles es) i
    made_row k z {row} r e =
        let long : length (bounds es) ≡ length es = simp length-map in
        let same : bounds row ≡ get_or (rows 9 (bounds es)) (i - 1) [] = ap bounds r ∙ bounds_part es 9 (9 * (i - 1)) ∙ sym (rows_at 9 (bounds es) (i - 1) (omega (arith, is, lowest_le (length es)))) in
        above (e ∙ ap (numbered (9 * i + 1)) same ∙ sym (cond-false _ _ _ (ne_eqb i 0 z)) ∙ sym (cond-false _ _ _ (lt-leb (length es) 9 k)))

same_head : (e f : Entry) → e.to ≡ f.to → e.bound.0 ≡ f.bound.0 → e.bound.1 ≡ f.bound.1 → e ≡ f
same_head e f a b c = ap (λ n. entry n e.bound) a ∙ ap (λ n. entry f.to (n, e.bound.1)) b ∙ ap (λ n. entry f.to (f.bound.0, n)) c

pub same_is : (es fs : List Entry) → same es fs ≡ true → es ≡ fs
same_is [] [] t = refl
same_is [] (f ∷ fs) t = absurd (false≢true t)
same_is (e ∷ es) [] t = absurd (false≢true t)
same_is (e ∷ es) (f ∷ fs) t =
    let p = and_parts _ _ t in
    let q = and_parts _ _ p.0 in
    let r = and_parts _ _ q.0 in
    ap (λ x. x ∷ es) (same_head e f (eqb-true _ _ r.0) (eqb-true _ _ r.1) (eqb-true _ _ q.1)) ∙ ap (λ xs. f ∷ xs) (same_is es fs p.1)

same_self : (es : List Entry) → same es es ≡ true
same_self [] = refl
same_self (e ∷ es) = and_from _ _ (and_from _ _ (and_from _ _ (eq-eqb e.to _ refl) (eq-eqb e.bound.0 _ refl)) (eq-eqb e.bound.1 _ refl)) (same_self es)

pub same_of : (es fs : List Entry) → es ≡ fs → same es fs ≡ true
same_of es fs e = rw e (same_self fs)

-- The lowest nodes of a table are its groups.
pub table_low : (gs : List (List Entry)) (k : ℕ) → table gs (lowest (length gs) + k) ≡ get_or gs k []
table_low gs k =
    let at : lowest (length gs) + k - lowest (length gs) ≡ k = omega arith in
    cond-false _ _ _ (le-ltb (lowest (length gs) + k) (lowest (length gs)) (omega arith)) ∙ ap (λ j. get_or gs j []) at

module _ (gs : List (List Entry)) (nodes : List Node) (h : length gs ≤ 81) (long : length nodes ≡ 91) (each : (k : ℕ) → k < 91 → get_or (map items nodes) k [] ≡ table gs k) where
  built_groups : groups (length gs) nodes ≡ gs
  built_groups =
      let low = lowest_le (length gs) in
      let n : length (groups (length gs) nodes) ≡ length gs = simp (length-take, length-drop, length-map) (omega arith) in
      ext_get_or [] (groups (length gs) nodes) gs n (λ k below.
      get_or-take (length gs) (drop (lowest (length gs)) (map items nodes)) k [] (omega arith) ∙ get_or-drop (lowest (length gs)) (map items nodes) k [] ∙ each (lowest (length gs) + k) (omega arith) ∙ table_low gs k)

  built_sound : Sound (length gs) nodes
  built_sound i k = same_of _ _ (each i k ∙ rw built_groups)

singles_one : (es : List Entry) (g : ℕ) → g < length (singles es) → length (get_or (singles es) g []) ≡ 1
singles_one es g h =
    let n : g < length es = simp length-map at h in
    rw (get_or-map (λ x. x ∷ []) es g (entry 0 (0, 0)) [] n)

pub concat_singles : (es : List Entry) → concat (singles es) ≡ es
concat_singles [] = refl
concat_singles (e ∷ es) = ap (λ xs. e ∷ xs) (concat_singles es)

module _ (es : List Entry) (nodes : List Node) (h : length es ≤ 81) (long : length nodes ≡ 91) (each : (k : ℕ) → k < 91 → get_or (map items nodes) k [] ≡ table (singles es) k) where
  n_is : length (singles es) ≡ length es
  n_is = simp length-map

  pub build_groups : groups (length es) nodes ≡ singles es
  build_groups = rw n_is at (built_groups (singles es) nodes (simp length-map h) long each)

  pub build_sound : Sound (length es) nodes
  build_sound = rw n_is at (built_sound (singles es) nodes (simp length-map h) long each)

  pub build_counted : length es ≡ length (concat (groups (length es) nodes))
  build_counted = sym (ap (λ gs. length (concat gs)) build_groups ∙ ap length (concat_singles es))

  pub build_full : Full (groups (length es) nodes)
  build_full = rw build_groups (λ g below. omega (arith, singles_one es g below))

  pub build_small : Small (groups (length es) nodes)
  build_small = rw build_groups (λ g below. omega (arith, singles_one es g below))

-- One node more of those that are to be as told.
pub nodes_turn : (f : ℕ → List Entry) (nodes : List Node) (i : ℕ) (node : Node) → i < length nodes → items node ≡ f i → ((k : ℕ) → k < i → get_or (map items nodes) k [] ≡ f k)
    → (k : ℕ) → k < i + 1 → get_or (map items (set nodes i node)) k [] ≡ f k
nodes_turn f nodes i node h is each k b =
    let others = map items nodes in
    ap (λ xs. get_or xs k []) (map-set items nodes i node)
    ∙ ⊎_elim
    (λ (l : k < i). get_or-set_other others i k (items node) [] (λ e. omega arith) ∙ each k l)
    (λ (l : i ≤ k).
    let e : k ≡ i = omega arith in
    get_or-set_at others i k (items node) [] e (simp length-map h) ∙ is ∙ ap f (sym e))
    (cases_lt k i)
