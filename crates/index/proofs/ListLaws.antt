-- One turn of listing all groups, and what changes of one group do to the list of all leaves.
use Rattle.std.proofs.Common.{◌≡◌, ℕ, zero, suc, ◌+◌, ◌-◌, ◌<◌, ◌≤◌, Bool, true, false, ◌&&◌, ltb, cond, List, [], ◌∷◌, ◌++◌, length, Some, None, Option, is_some, Bor, slice_get, get_or, drop, set, sym, refl, ap, ◌∙◌, ⊎_elim, append_assoc, arith, length-append, length-set}
use Rattle.std.proofs.lemmas.List.{drop_more, get_or_append_left, get_or-append-add}
use Rattle.index.specs.declared.node.Entry.{Entry}
use Rattle.index.specs.Nodes.{entry, parted, renamed, without, joined}
use Rattle.index.specs.Search.{concat, offset, Full}
use Rattle.index.specs.declared.table.Place.{Place}
use Rattle.index.specs.Places.{position, group_of, place_after, place_before, within}
use Rattle.index.specs.Meaning.{leaf_at, replaced, split, splits, with_group}
use Rattle.index.proofs.PlaceLaws.{Within, within_parts, within_of, in_its_group, told_after, none_after, told_before, after_parts}
use Rattle.index.proofs.BuildLaws.{concat_singles}
use Rattle.index.proofs.ChangeLaws.{length_parted, length_renamed}
use Rattle.std.proofs.lemmas.Bool.{cond-true, cond-false, cond_both, and_parts, cases_lt, ltb-false, ltb-true, le-ltb, lt-ltb}
use Rattle.std.proofs.lemmas.Option.{slice_get-get_or, slice_get_past, slice_get_read}
use Rattle.std.specs.Option.{IfSome, option_copied}

and_false : (a b : Bool) → b ≡ false → false ≡ (a && b)
and_false true b e = sym e
and_false false b e = refl

and_true : (a b : Bool) → b ≡ true → a ≡ (a && b)
and_true true b e = sym e
and_true false b e = refl

module _ (gs : List (List Entry)) (g : ℕ) (out : List Entry) {all : List Entry} (rest : out ++ concat (drop g gs) ≡ all) where
  here : g < length gs → out ++ (get_or gs g [] ++ concat (drop (g + 1) gs)) ≡ all
  here h = ap (λ xs. out ++ concat xs) (sym (drop_more gs g [] h)) ∙ rest

  pub list_room : (part : List Entry) → g < length gs → part ≡ get_or gs g [] → length out + length part ≤ length all
  list_room part h is =
      let n : length out + (length (get_or gs g []) + length (concat (drop (g + 1) gs))) ≡ length all = sym (length-append out _ ∙ ap (λ m. length out + m) (length-append (get_or gs g []) _)) ∙ ap length (here h) in
      omega (arith, n, ap length is)

  pub list_turn : (part : List Entry) {more : List Entry} → g < length gs → part ≡ get_or gs g [] → more ≡ out ++ part → more ++ concat (drop (g + 1) gs) ≡ all
  list_turn part h is push = rw (push, is) (append_assoc out (get_or gs g []) _ ∙ here h)

-- An edit at one place of a list, in its group and in the list of all leaves.
module _ (f : List Entry → ℕ → List Entry) (step : (e : Entry) (es : List Entry) (s : ℕ) → f (e ∷ es) (suc s) ≡ e ∷ f es s) (base : (e : Entry) (xs ys : List Entry) → f (e ∷ xs) 0 ++ ys ≡ f (e ∷ (xs ++ ys)) 0) where
  edit_front : (xs ys : List Entry) (s : ℕ) → s < length xs → f xs s ++ ys ≡ f (xs ++ ys) s
  edit_front [] ys s h = absurd (omega arith)
  edit_front (x ∷ xs) ys zero h = base x xs ys
  edit_front (x ∷ xs) ys (suc s) h = ap (λ es. es ++ ys) (step x xs s) ∙ ap (λ es. x ∷ es) (edit_front xs ys s (omega arith)) ∙ sym (step x (xs ++ ys) s)

  edit_back : (xs ys : List Entry) (s : ℕ) → xs ++ f ys s ≡ f (xs ++ ys) (length xs + s)
  edit_back [] ys s = let z : 0 + s ≡ s = omega arith in rw z
  edit_back (x ∷ xs) ys s = let z : length (x ∷ xs) + s ≡ suc (length xs + s) = omega arith in rw z (ap (λ es. x ∷ es) (edit_back xs ys s) ∙ sym (step x (xs ++ ys) (length xs + s)))

  concat_edit : (gs : List (List Entry)) (g s : ℕ) → g < length gs → s < length (get_or gs g []) → concat (set gs g (f (get_or gs g []) s)) ≡ f (concat gs) (offset gs g + s)
  concat_edit [] g s h k = absurd (omega arith)
  concat_edit (x ∷ gs) zero s h k = let z : 0 + s ≡ s = omega arith in rw z (edit_front x (concat gs) s k)
  concat_edit (x ∷ gs) (suc g) s h k =
      let z : length x + offset gs g + s ≡ length x + (offset gs g + s) = omega arith in
      rw z (ap (λ es. x ++ es) (concat_edit gs g s (omega arith) k) ∙ edit_back x (concat gs) (offset gs g + s))

concat_parted : (gs : List (List Entry)) (g s left : ℕ) (b : ℕ × ℕ) (right : ℕ) → g < length gs → s < length (get_or gs g []) → concat (set gs g (parted (get_or gs g []) s left b right)) ≡ parted (concat gs) (offset gs g + s) left b right
concat_parted gs g s left b right = concat_edit (λ es n. parted es n left b right) (λ e es n. refl) (λ e xs ys. refl) gs g s

pub concat_renamed : (gs : List (List Entry)) (g s leaf : ℕ) → g < length gs → s < length (get_or gs g []) → concat (set gs g (renamed (get_or gs g []) s leaf)) ≡ renamed (concat gs) (offset gs g + s) leaf
concat_renamed gs g s leaf = concat_edit (λ es n. renamed es n leaf) (λ e es n. refl) (λ e xs ys. refl) gs g s

concat_without : (gs : List (List Entry)) (g s : ℕ) → g < length gs → s < length (get_or gs g []) → concat (set gs g (without (get_or gs g []) s)) ≡ without (concat gs) (offset gs g + s)
concat_without = concat_edit without (λ e es n. refl) (λ e xs ys. refl)

-- A place is within the list of all leaves.
pub offset_within : {X : Type 0} (gs : List (List X)) (g s : ℕ) → g < length gs → s < length (get_or gs g []) → offset gs g + s < length (concat gs)
offset_within [] g s h k = absurd (omega arith)
offset_within (x ∷ gs) zero s h k = rw length-append (omega arith)
offset_within (x ∷ gs) (suc g) s h k = let more = offset_within gs g s (omega arith) k in rw length-append (omega arith)

pub length_split : (gs : List (List Entry)) (g s left : ℕ) (b : ℕ × ℕ) (right : ℕ) → g < length gs → s < length (get_or gs g []) → length (concat (set gs g (parted (get_or gs g []) s left b right))) ≡ length (concat gs) + 1
length_split gs g s left b right h k = ap length (concat_parted gs g s left b right h k) ∙ length_parted (concat gs) (offset gs g + s) left b right (offset_within gs g s h k)

-- Where a split is taken.
module _ (gs : List (List Entry)) (p : Place) where
  pub splits_parts : splits gs p ≡ true → Within gs p × (length (concat gs) < 64)
  splits_parts t = let h = and_parts (within gs p) _ t in (within_parts gs p h.0, ltb-true _ _ h.1)

  pub no_split : 64 ≤ length (concat gs) → false ≡ splits gs p
  no_split h = and_false (within gs p) _ (le-ltb (length (concat gs)) 64 h)

  pub split_where : length (concat gs) < 64 → within gs p ≡ splits gs p
  split_where h = and_true (within gs p) _ (lt-ltb (length (concat gs)) 64 h)

-- The list of all leaves after a split.
pub list_split : (gs : List (List Entry)) (p : Place) (left : ℕ) (b : ℕ × ℕ) (right : ℕ) → Within gs p → concat (split gs p left b right) ≡ parted (concat gs) (position gs p) left b right
list_split gs p left b right w =
    let all = concat_parted gs p.group p.slot left b right w.0 w.1 in
    cond_both (ltb (length (group_of gs p)) 5) _ _ (λ hs. concat hs ≡ parted (concat gs) (position gs p) left b right) (λ t. all) (λ f. concat_singles _ ∙ all)

pub split_list : (gs : List (List Entry)) (p : Place) (left : ℕ) (b : ℕ × ℕ) (right : ℕ) {old new : List Entry} → old ≡ group_of gs p → new ≡ parted old p.slot left b right
    → concat (set gs p.group new) ≡ concat (with_group gs p (parted (group_of gs p) p.slot left b right))
split_list gs p left b right e f = ap (λ es. concat (set gs p.group es)) (f ∙ ap (λ es. parted es p.slot left b right) e)

-- The leaf at a place.
offset_at : {X : Type 0} (gs : List (List X)) (g s : ℕ) (d : X) → g < length gs → s < length (get_or gs g []) → get_or (concat gs) (offset gs g + s) d ≡ get_or (get_or gs g []) s d
offset_at [] g s d h k = absurd (omega arith)
offset_at (x ∷ gs) zero s d h k = let z : 0 + s ≡ s = omega arith in rw z (get_or_append_left x (concat gs) d s k)
offset_at (x ∷ gs) (suc g) s d h k =
    let z : length x + offset gs g + s ≡ length x + (offset gs g + s) = omega arith in
    rw z (get_or-append-add x (concat gs) (offset gs g + s) d ∙ offset_at gs g s d (omega arith) k)

-- One group on.
offset_more : {X : Type 0} (gs : List (List X)) (g : ℕ) → g < length gs → offset gs (g + 1) ≡ offset gs g + length (get_or gs g [])
offset_more [] g h = absurd (omega arith)
offset_more (x ∷ []) zero h = omega arith
offset_more (x ∷ y ∷ gs) zero h = omega arith
offset_more (x ∷ gs) (suc g) h = let more = offset_more gs g (omega arith) in let z : suc g + 1 ≡ suc (g + 1) = omega arith in rw z (omega (arith, more))

offset_all : {X : Type 0} (gs : List (List X)) (g : ℕ) → length gs ≤ g → offset gs g ≡ length (concat gs)
offset_all [] g h = refl
offset_all (x ∷ gs) zero h = absurd (omega arith)
offset_all (x ∷ gs) (suc g) h = let more = offset_all gs g (omega arith) in rw length-append (omega arith)

pub item_is : {X : Type 0} (xs : List X) (i : ℕ) (r : Option (Bor X)) → is_some r ≡ ltb i (length xs) → IfSome r (λ x. x.now ≡ get_or xs i x.now) → option_copied r ≡ slice_get xs i
item_is xs i None e s = sym (slice_get_past xs i (ltb-false _ _ (sym e)))
item_is xs i (Some x) e s = sym (slice_get_read xs (length xs) i x.now refl (ltb-true _ _ (sym e)) s)

pub leaf_is : (gs : List (List Entry)) (p : Place) {es : List Entry} → p.group < length gs → es ≡ group_of gs p → slice_get es p.slot ≡ leaf_at gs p
leaf_is gs p {es} h e =
    ⊎_elim
    (λ k. let d = entry 0 (0, 0) in
    slice_get-get_or es p.slot d k ∙ ap Some (ap (λ xs. get_or xs p.slot d) e ∙ sym (offset_at gs p.group p.slot d h (rw e at k))) ∙ sym (cond-true _ _ _ (within_of gs p (h, rw e at k))))
    (λ k. slice_get_past es p.slot k ∙ sym (cond-false _ _ _ (sym (in_its_group gs p h (ap length e)) ∙ le-ltb p.slot (length es) k)))
    (cases_lt p.slot (length es))

-- The places beside one that is there, where no group is empty.
module _ (gs : List (List Entry)) (p : Place) {n : ℕ} (h : p.group < length gs) (count : n ≡ length (group_of gs p)) (k : p.slot < n) where
  there : Within gs p
  there = (h, omega arith)

  pub next_slot : p.slot + 1 < n → Some (record { group = p.group; slot = p.slot + 1 }) ≡ place_after gs p
  next_slot more = told_after gs p there _ (h, omega arith) (omega arith)

  pub next_group : Full gs → n ≤ p.slot + 1 → p.group + 1 < length gs → Some (record { group = p.group + 1; slot = 0 }) ≡ place_after gs p
  next_group full less more = told_after gs p there _ (more, full (p.group + 1) more) (omega (arith, offset_more gs p.group h))

  pub no_next : n ≤ p.slot + 1 → length gs ≤ p.group + 1 → None ≡ place_after gs p
  no_next less none = none_after gs p there (omega (arith, offset_more gs p.group h, offset_all gs (p.group + 1) none))

module _ (gs : List (List Entry)) (p : Place) (t : within gs p ≡ true) where
  pub last_slot : 0 < p.slot → Some (record { group = p.group; slot = p.slot - 1 }) ≡ place_before gs p
  last_slot some = let w = within_parts gs p t in told_before gs p w _ (w.0, omega (arith, w.1)) (omega arith)

  pub last_group : (g : ℕ) {n : ℕ} → g + 1 ≡ p.group → p.slot ≡ 0 → n ≡ length (get_or gs g []) → 0 < n → Some (record { group = g; slot = n - 1 }) ≡ place_before gs p
  last_group g e z count some =
      let w = within_parts gs p t in
      let h : g < length gs = omega (arith, w.0) in
      told_before gs p w _ (h, omega arith) (omega (arith, offset_more gs g h, ap (offset gs) e))

joined_is : (es : List Entry) (s leaf : ℕ) → without (renamed es (s + 1) leaf) s ≡ joined es s leaf
joined_is [] s leaf = refl
joined_is (e ∷ es) zero leaf = refl
joined_is (e ∷ es) (suc s) leaf = let z : suc s + 1 ≡ suc (s + 1) = omega arith in rw z (ap (λ xs. e ∷ xs) (joined_is es s leaf))

length_joined : (es : List Entry) (s leaf : ℕ) → s + 1 < length es → length (joined es s leaf) + 1 ≡ length es
length_joined [] s leaf h = absurd (omega arith)
length_joined (e ∷ es) zero leaf h = let n = length_renamed es 0 leaf in omega (arith, n)
length_joined (e ∷ es) (suc s) leaf h = let n = length_joined es s leaf (omega arith) in omega (arith, n)

-- A group as long as the one in its place moves nothing.
offset_same : (gs : List (List Entry)) (k g : ℕ) (new : List Entry) → length new ≡ length (get_or gs k []) → offset (set gs k new) g ≡ offset gs g
offset_same [] k g new e = refl
offset_same (x ∷ gs) zero zero new e = refl
offset_same (x ∷ gs) zero (suc g) new e = ap (λ n. n + offset gs g) e
offset_same (x ∷ gs) (suc k) zero new e = refl
offset_same (x ∷ gs) (suc k) (suc g) new e = ap (λ n. length x + n) (offset_same gs k g new e)

length_same : (gs : List (List Entry)) (k g : ℕ) (new : List Entry) → length new ≡ length (get_or gs k []) → length (get_or (set gs k new) g []) ≡ length (get_or gs g [])
length_same [] k g new e = refl
length_same (x ∷ gs) zero zero new e = e
length_same (x ∷ gs) zero (suc g) new e = refl
length_same (x ∷ gs) (suc k) zero new e = refl
length_same (x ∷ gs) (suc k) (suc g) new e = length_same gs k g new e

-- The groups after the second of two neighbours has its new leaf, and the list without the first.
module _ (gs hs : List (List Entry)) (p q : Place) (leaf : ℕ) (w : Within gs p) (v : Within gs q) (next : position gs q ≡ position gs p + 1) (is : hs ≡ with_group gs q (renamed (group_of gs q) q.slot leaf)) where
  same_long : length (renamed (group_of gs q) q.slot leaf) ≡ length (group_of gs q)
  same_long = length_renamed (group_of gs q) q.slot leaf

  still_within : Within hs p
  still_within = (
    omega (arith, w.0, ap length is ∙ length-set gs q.group (renamed (group_of gs q) q.slot leaf)),
    omega (arith, w.1, ap (λ xs. length (get_or xs p.group [])) is ∙ length_same gs q.group p.group _ same_long),
  )

  merged_list : {old new : List Entry} → old ≡ group_of hs p → new ≡ without old p.slot → concat (set hs p.group new) ≡ joined (concat gs) (position gs p) leaf
  merged_list e f =
      let at : offset hs p.group + p.slot ≡ position gs p = ap (λ n. n + p.slot) (ap (λ xs. offset xs p.group) is ∙ offset_same gs q.group p.group _ same_long) in
      let all : concat hs ≡ renamed (concat gs) (position gs p + 1) leaf = ap concat is ∙ concat_renamed gs q.group q.slot leaf v.0 v.1 ∙ ap (λ n. renamed (concat gs) n leaf) next in
      ap (λ es. concat (set hs p.group es)) (f ∙ ap (λ es. without es p.slot) e)
      ∙ concat_without hs p.group p.slot still_within.0 still_within.1
      ∙ ap (without (concat hs)) at ∙ ap (λ es. without es (position gs p)) all ∙ joined_is (concat gs) (position gs p) leaf

  merged_length : length (joined (concat gs) (position gs p) leaf) + 1 ≡ length (concat gs)
  merged_length = length_joined (concat gs) (position gs p) leaf (omega (arith, next, offset_within gs q.group q.slot v.0 v.1))

  merged_some : 1 ≤ length (joined (concat gs) (position gs p) leaf)
  merged_some = omega (arith, merged_length, next, offset_within gs q.group q.slot v.0 v.1)

-- What a new leaf in the second of two neighbours leaves for the list without the first.
pub record Merging (gs hs : List (List Entry)) (p : Place) (leaf : ℕ) : Type 0 where
  pub there : Within hs p
  pub list : {old new : List Entry} → old ≡ group_of hs p → new ≡ without old p.slot → concat (set hs p.group new) ≡ joined (concat gs) (position gs p) leaf
  pub count : length (joined (concat gs) (position gs p) leaf) + 1 ≡ length (concat gs)
  pub some : 1 ≤ length (joined (concat gs) (position gs p) leaf)

pub merging : (gs hs : List (List Entry)) (p q : Place) (leaf : ℕ) → place_after gs p ≡ Some q → hs ≡ cond (within gs q) (replaced gs q leaf) gs → Merging gs hs p leaf
merging gs hs p q leaf e f =
    let w = after_parts gs p q e in
    let is = f ∙ cond-true _ _ _ (within_of gs q w.1) in
    record {
      there = still_within gs hs p q leaf w.0 w.1 w.2 is;
      list = λ old new. merged_list gs hs p q leaf w.0 w.1 w.2 is old new;
      count = merged_length gs hs p q leaf w.0 w.1 w.2 is;
      some = merged_some gs hs p q leaf w.0 w.1 w.2 is;
    }
