-- The groups after a change list the leaves of its plan, with its bounds between them.
use Rattle.std.proofs.Common.{◌≡◌, ℕ, zero, suc, ◌+◌, ◌-◌, ◌<◌, ◌≤◌, true, false, eqb, leb, cond, is_some, ◌≢◌, List, [], ◌∷◌, ◌++◌, length, take, drop, get_or, Some, None, Option, sym, refl, ap, ◌∙◌, ⊎_elim, add-one, length-append, length-drop, length-take, take-append-drop, arith}
use Rattle.std.proofs.lemmas.Bool.{cases_Bool, cond-true, cond-false, cond_both, eqb-true, false≢true, lt-ltb, ne_eqb}
use Rattle.std.proofs.lemmas.Bool.Decides.{nat_tests}
use Rattle.std.proofs.lemmas.List.{drop_more, length-map}
use Rattle.std.specs.Option.{unwrap_or}
use Rattle.refusal.specs.declared.Refusal.TheVariants.{NoRoom}
use Rattle.keys.specs.InWords.{WordKind}
use Rattle.leaves.specs.declared.leaf.Pair.{Pair}
use Rattle.leaves.specs.Ascent.{all_pairs}
use Rattle.leaves.specs.Layout.{count_of, word}
use Rattle.leaves.specs.Pairs.{lookup}
use Rattle.appends.specs.Append.{all_applied}
use Rattle.rewrites.specs.Rewrite.{Filling}
use Rattle.rewrites.specs.Bounds.{bounds_after, last_key}
use Rattle.plans.specs.declared.deed.Deed.{Deed}
use Rattle.plans.specs.declared.decision.Decision.{Decision}
use Rattle.plans.specs.declared.decision.Decision.TheVariants.{Split, Merge, Replace}
use Rattle.plans.specs.Deeds.{key_of}
use Rattle.plans.specs.Told.{Choice}
use Rattle.plans.specs.Plan.{Plan, Site, Tree, Wish, carried, crowded, declined, elements, fillings, granted, nothing, pairs_of, plan_at, refuse, rewriting, rewritten, site_at, taken, wish, writes}
use Rattle.index.specs.declared.node.Entry.{Entry}
use Rattle.index.specs.declared.table.Place.{Place}
use Rattle.index.specs.Meaning.{merged, replaced, split}
use Rattle.index.specs.Nodes.{bounds, joined, numbers, parted, renamed}
use Rattle.index.specs.Places.{place_at, position, within}
use Rattle.index.specs.Search.{concat, front}
use Rattle.index.proofs.BuildLaws.{concat_singles}
use Rattle.index.proofs.FlatLaws.{front_joined, front_parted, front_renamed, numbers_joined, numbers_parted, numbers_renamed}
use Rattle.index.proofs.ListLaws.{concat_renamed, list_split}
use Rattle.index.proofs.PlaceLaws.{every_number, numbered, within_parts}
use Rattle.tree.specs.Turning.{place_of, regrouped}

-- Groups list the leaves of a tree, with its bounds between them.
pub record Lists (gs : List (List Entry)) (t : Tree) : Type 0 where
  pub leaves : numbers (concat gs) ≡ t.leaves
  pub between : front (bounds (concat gs)) ≡ t.bounds

-- The place of a number is there.
placed_in : (gs : List (List Entry)) (n : ℕ) (r : Option Place) → place_at gs n ≡ r → is_some r ≡ true
    → (within gs (unwrap_or r (record { group = 0; slot = 0 })) ≡ true) × (position gs (unwrap_or r (record { group = 0; slot = 0 })) ≡ n)
placed_in gs n None e h = absurd (false≢true h)
placed_in gs n (Some p) e h = numbered gs n p e

pub placed_at : (gs : List (List Entry)) (n : ℕ) → n < length (concat gs) → (within gs (place_of gs n) ≡ true) × (position gs (place_of gs n) ≡ n)
placed_at gs n h = placed_in gs n (place_at gs n) refl (every_number gs n ∙ lt-ltb n (length (concat gs)) h)

length_front : (bs : List (ℕ × ℕ)) → length (front bs) ≡ length bs - 1
length_front [] = refl
length_front (b ∷ []) = refl
length_front (b ∷ c ∷ bs) = let more = length_front (c ∷ bs) in omega arith

-- What stands after the first n of a list.
module _ {X : Type 0} where
  taken_then : (xs : List X) (n : ℕ) (y : X) (ys : List X) (d : X) → n ≤ length xs → get_or (take n xs ++ (y ∷ ys)) n d ≡ y
  taken_then xs zero y ys d h = refl
  taken_then [] (suc n) y ys d h = absurd (omega arith)
  taken_then (x ∷ xs) (suc n) y ys d h = taken_then xs n y ys d (omega arith)

  taken_next : (xs : List X) (n : ℕ) (y z : X) (ys : List X) (d : X) → n ≤ length xs → get_or (take n xs ++ (y ∷ z ∷ ys)) (n + 1) d ≡ z
  taken_next xs zero y z ys d h = refl
  taken_next [] (suc n) y z ys d h = absurd (omega arith)
  taken_next (x ∷ xs) (suc n) y z ys d h = let s : suc n + 1 ≡ suc (n + 1) = omega arith in rw s (taken_next xs n y z ys d (omega arith))

  -- Another in the place of one, where it is the same.
  put_same : (xs : List X) (n : ℕ) (d : X) → n < length xs → take n xs ++ (get_or xs n d ∷ drop (n + 1) xs) ≡ xs
  put_same xs n d h = ap (λ ys. take n xs ++ ys) (sym (drop_more xs n d h)) ∙ take-append-drop n xs

  drop_next : (xs : List X) (n : ℕ) (y : X) (ys : List X) → drop (n + 1) xs ≡ y ∷ ys → drop (n + 2) xs ≡ ys
  drop_next [] n y ys e = absurd (omega (arith, ap length e, length-drop {A = X} (n + 1) []))
  drop_next (x ∷ xs) zero y ys e = ap (drop 1) e
  drop_next (x ∷ xs) (suc n) y ys e =
      let a : suc n + 1 ≡ suc (n + 1) = omega arith in
      let b : suc n + 2 ≡ suc (n + 2) = omega arith in
      rw b (drop_next xs n y ys (sym (ap (λ i. drop i (x ∷ xs)) a) ∙ e))

-- A change at leaf number n.
module _ (gs : List (List Entry)) (n : ℕ) (here : n < length (concat gs)) where
  abbrev ks : List ℕ
  ks = numbers (concat gs)

  abbrev bs : List (ℕ × ℕ)
  bs = front (bounds (concat gs))

  abbrev p : Place
  p = place_of gs n

  long : length ks ≡ length (concat gs)
  long = length-map (concat gs) _

  long_between : length bs ≡ length (concat gs) - 1
  long_between = length_front (bounds (concat gs)) ∙ ap (λ k. k - 1) (length-map (concat gs) (λ (e : Entry). e.bound))

  there : within gs p ≡ true
  there = (placed_at gs n here).0

  at : position gs p ≡ n
  at = (placed_at gs n here).1

  -- So many leaves in the place of some of them.
  count_of_leaves : (new : List ℕ) (k : ℕ) → k ≤ length (concat gs) → length (take n ks ++ (new ++ drop k ks)) ≡ n + length new + (length (concat gs) - k)
  count_of_leaves new k h =
      omega (arith, here, long, length-append (take n ks) (new ++ drop k ks), length-append new (drop k ks), length-take n ks, length-drop k ks)

  -- The tree after the change is t.
  module _ (t : Tree) where
    -- The groups list the leaves that a list of entries has.
    lists_of : (es : List Entry) → concat (regrouped gs n t) ≡ es → numbers es ≡ t.leaves → front (bounds es) ≡ t.bounds → Lists (regrouped gs n t) t
    lists_of es all leaves between = record { leaves = ap numbers all ∙ leaves; between = ap (λ xs. front (bounds xs)) all ∙ between }

    -- Two leaves in the place of the one.
    module _ (left : ℕ) (b : ℕ × ℕ) (right : ℕ) (leaves : t.leaves ≡ take n ks ++ (left ∷ right ∷ drop (n + 1) ks)) (between : t.bounds ≡ take n bs ++ (b ∷ drop n bs)) where
      split_is : regrouped gs n t ≡ split gs p left b right
      split_is =
          let count = ap length leaves ∙ count_of_leaves (left ∷ right ∷ []) (n + 1) (omega arith) in
          let l : get_or t.leaves n 0 ≡ left = ap (λ xs. get_or xs n 0) leaves ∙ taken_then ks n left (right ∷ drop (n + 1) ks) 0 (omega (arith, long)) in
          let r : get_or t.leaves (n + 1) 0 ≡ right = ap (λ xs. get_or xs (n + 1) 0) leaves ∙ taken_next ks n left right (drop (n + 1) ks) 0 (omega (arith, long)) in
          let c : get_or t.bounds n (0, 0) ≡ b = ap (λ xs. get_or xs n (0, 0)) between ∙ taken_then bs n b (drop n bs) (0, 0) (omega (arith, long_between)) in
          cond-true (eqb (length t.leaves) (length (concat gs) + 1)) _ _ (grind (arith, nat_tests))
          ∙ (ap (λ i. split gs p i (get_or t.bounds n (0, 0)) (get_or t.leaves (n + 1) 0)) l ∙ (ap (λ i. split gs p left i (get_or t.leaves (n + 1) 0)) c ∙ ap (split gs p left b) r))

      split_lists : Lists (regrouped gs n t) t
      split_lists =
          lists_of (parted (concat gs) n left b right)
          (ap concat split_is ∙ (list_split gs p left b right (within_parts gs p there) ∙ ap (λ i. parted (concat gs) i left b right) at))
          (numbers_parted left b right (concat gs) n here ∙ sym leaves) (front_parted left b right (concat gs) n here ∙ sym between)

    -- Another leaf in its place.
    module _ (leaf : ℕ) (leaves : t.leaves ≡ take n ks ++ (leaf ∷ drop (n + 1) ks)) (between : t.bounds ≡ bs) where
      read_is : get_or t.leaves n 0 ≡ leaf
      read_is = ap (λ xs. get_or xs n 0) leaves ∙ taken_then ks n leaf (drop (n + 1) ks) 0 (omega (arith, long))

      as_many : regrouped gs n t ≡ cond (eqb (get_or t.leaves n 0) (get_or ks n 0)) gs (replaced gs p (get_or t.leaves n 0))
      as_many =
          let count = ap length leaves ∙ count_of_leaves (leaf ∷ []) (n + 1) (omega arith) in
          cond-false (eqb (length t.leaves) (length (concat gs) + 1)) _ _ (grind (arith, nat_tests)) ∙ cond-false (eqb (length t.leaves + 1) (length (concat gs))) _ _ (grind (arith, nat_tests))

      replaced_is : eqb (get_or t.leaves n 0) (get_or ks n 0) ≡ false → regrouped gs n t ≡ replaced gs p leaf
      replaced_is other = as_many ∙ (cond-false (eqb (get_or t.leaves n 0) (get_or ks n 0)) _ _ other ∙ ap (replaced gs p) read_is)

      replaced_lists : Lists (regrouped gs n t) t
      replaced_lists =
          ⊎_elim
          (λ yes.
          let same : leaf ≡ get_or ks n 0 = sym read_is ∙ eqb-true _ _ yes in
          lists_of (concat gs) (ap concat (as_many ∙ cond-true (eqb (get_or t.leaves n 0) (get_or ks n 0)) _ _ yes))
          (sym (put_same ks n 0 (omega (arith, long))) ∙ (ap (λ k. take n ks ++ (k ∷ drop (n + 1) ks)) (sym same) ∙ sym leaves)) (sym between))
          (λ no.
          let w = within_parts gs p there in
          lists_of (renamed (concat gs) n leaf) (ap concat (replaced_is no) ∙ (concat_renamed gs p.group p.slot leaf w.0 w.1 ∙ ap (λ i. renamed (concat gs) i leaf) at))
          (numbers_renamed leaf (concat gs) n here ∙ sym leaves) (front_renamed leaf (concat gs) n ∙ sym between))
          (cases_Bool (eqb (get_or t.leaves n 0) (get_or ks n 0)))

    -- One leaf in the place of it and the next.
    module _ (leaf : ℕ) (more : n + 1 < length (concat gs)) (leaves : t.leaves ≡ take n ks ++ (leaf ∷ drop (n + 2) ks)) (between : t.bounds ≡ take n bs ++ drop (n + 1) bs) where
      merged_is : regrouped gs n t ≡ merged gs p leaf
      merged_is =
          let count = ap length leaves ∙ count_of_leaves (leaf ∷ []) (n + 2) (omega arith) in
          let l : get_or t.leaves n 0 ≡ leaf = ap (λ xs. get_or xs n 0) leaves ∙ taken_then ks n leaf (drop (n + 2) ks) 0 (omega (arith, long)) in
          cond-false (eqb (length t.leaves) (length (concat gs) + 1)) _ _ (grind (arith, nat_tests)) ∙ (cond-true (eqb (length t.leaves + 1) (length (concat gs))) _ _ (grind (arith, nat_tests)) ∙ ap (merged gs p) l)

      merged_lists : Lists (regrouped gs n t) t
      merged_lists =
          lists_of (joined (concat gs) n leaf) (ap concat merged_is ∙ (concat_singles (joined (concat gs) (position gs p) leaf) ∙ ap (λ i. joined (concat gs) i leaf) at))
          (numbers_joined leaf (concat gs) n more ∙ sym leaves) (front_joined leaf (concat gs) n more ∙ sym between)

-- Whatever plan there is for leaf number n, the groups after it list its leaves.
abbrev pub Regroups : List (List Entry) → ℕ → Plan → Type 0
Regroups gs n (refuse e) = Unit {0}
Regroups gs n nothing = Unit {0}
Regroups gs n (writes before commit t) = Lists (regrouped gs n t) t

-- Plans of a tree whose leaves and bounds the groups list.
module _ (o : WordKind) (m : List ℕ) (gs : List (List Entry)) (n : ℕ) (here : n < length (concat gs)) (last : Option ℕ) where
  abbrev t : Tree
  t = record { leaves = numbers (concat gs); bounds = front (bounds (concat gs)); last = last }

  abbrev s : Site
  s = site_at n t.leaves

  many : length t.leaves ≡ length (concat gs)
  many = length-map (concat gs) _

  before_long : length s.before ≡ n
  before_long = omega (arith, many, length-take n t.leaves)

  after_is : drop (n + 1) t.leaves ≡ s.after
  after_is = ap (λ i. drop i t.leaves) (add-one n)

  kept_lists : Lists (regrouped gs n t) t
  kept_lists = replaced_lists gs n here t (get_or t.leaves n 0) (sym (put_same t.leaves n 0 (omega (arith, many)))) refl

  -- A split into two new leaves.
  module _ (f g : Filling) (new : Option ℕ) where
    abbrev two_tree : Tree
    two_tree = record { leaves = s.before ++ (f.leaf ∷ g.leaf ∷ s.after); bounds = bounds_after (length s.before) 0 (f ∷ g ∷ []) t.bounds; last = new }

    two_leaves : two_tree.leaves ≡ take n t.leaves ++ (f.leaf ∷ g.leaf ∷ drop (n + 1) t.leaves)
    two_leaves = ap (λ ks. s.before ++ (f.leaf ∷ g.leaf ∷ ks)) (sym after_is)

    two_between : two_tree.bounds ≡ take n t.bounds ++ (last_key f.content ∷ drop n t.bounds)
    two_between =
        let z : n + 0 ≡ n = omega arith in
        ap (λ i. take i t.bounds ++ (last_key f.content ∷ drop (i + 0) t.bounds)) before_long ∙ ap (λ i. take n t.bounds ++ (last_key f.content ∷ drop i t.bounds)) z

    pub two_groups : regrouped gs n two_tree ≡ split gs (place_of gs n) f.leaf (last_key f.content) g.leaf
    two_groups = split_is gs n here two_tree f.leaf (last_key f.content) g.leaf two_leaves two_between

    two_lists : Lists (regrouped gs n two_tree) two_tree
    two_lists = split_lists gs n here two_tree f.leaf (last_key f.content) g.leaf two_leaves two_between

  -- A replacement by one new leaf.
  module _ (f : Filling) (new : Option ℕ) where
    abbrev one_tree : List ℕ → Tree
    one_tree post = record { leaves = s.before ++ (f.leaf ∷ post); bounds = bounds_after (length s.before) 0 (f ∷ []) t.bounds; last = new }

    one_leaves : (post : List ℕ) → s.after ≡ post → (one_tree post).leaves ≡ take n t.leaves ++ (f.leaf ∷ drop (n + 1) t.leaves)
    one_leaves post e = ap (λ ks. s.before ++ (f.leaf ∷ ks)) (sym (after_is ∙ e))

    one_between : bounds_after (length s.before) 0 (f ∷ []) t.bounds ≡ t.bounds
    one_between = let z : length s.before + 0 ≡ length s.before = omega arith in rw z (take-append-drop (length s.before) t.bounds)

    pub one_groups : f.leaf ≢ get_or t.leaves n 0 → regrouped gs n (one_tree s.after) ≡ replaced gs (place_of gs n) f.leaf
    one_groups other =
        let leaves = one_leaves s.after refl in
        replaced_is gs n here (one_tree s.after) f.leaf leaves one_between
        (ne_eqb (get_or (one_tree s.after).leaves n 0) (get_or t.leaves n 0) (λ same. other (sym (read_is gs n here (one_tree s.after) f.leaf leaves one_between) ∙ same)))

    one_lists : (post : List ℕ) → s.after ≡ post → Lists (regrouped gs n (one_tree post)) (one_tree post)
    one_lists post e = replaced_lists gs n here (one_tree post) f.leaf (one_leaves post e) one_between

    -- A merge with the next leaf.
    abbrev joined_tree : List ℕ → Tree
    joined_tree post = record { leaves = s.before ++ (f.leaf ∷ drop 1 post); bounds = bounds_after (length s.before) (length (take 1 post)) (f ∷ []) t.bounds; last = new }

    module _ (k : ℕ) (post : List ℕ) (e : s.after ≡ k ∷ post) where
      joined_more : n + 1 < length (concat gs)
      joined_more = omega (arith, many, ap length (after_is ∙ e), length-drop (n + 1) t.leaves)

      joined_leaves : (joined_tree (k ∷ post)).leaves ≡ take n t.leaves ++ (f.leaf ∷ drop (n + 2) t.leaves)
      joined_leaves = ap (λ ks. s.before ++ (f.leaf ∷ ks)) (sym (drop_next t.leaves n k post (after_is ∙ e)))

      joined_between : (joined_tree (k ∷ post)).bounds ≡ take n t.bounds ++ drop (n + 1) t.bounds
      joined_between = ap (λ i. take i t.bounds ++ drop (i + 1) t.bounds) before_long

      pub joined_groups : regrouped gs n (joined_tree (k ∷ post)) ≡ merged gs (place_of gs n) f.leaf
      joined_groups = merged_is gs n here (joined_tree (k ∷ post)) f.leaf joined_more joined_leaves joined_between

    joined_lists : (post : List ℕ) → s.after ≡ post → Lists (regrouped gs n (joined_tree post)) (joined_tree post)
    joined_lists [] e = one_lists [] e
    joined_lists (k ∷ post) e = merged_lists gs n here (joined_tree (k ∷ post)) f.leaf (joined_more k post e) (joined_leaves k post e) (joined_between k post e)

  abbrev one : ℕ
  one = taken (word m 3) t.leaves last

  abbrev two : ℕ
  two = taken (word m 3) (one ∷ t.leaves) (Some one)

  rewritten_regroups : (ps : List Pair) (by : Decision) → Regroups gs n (rewritten o m t s ps by)
  rewritten_regroups ps (Split left) =
      cond_both (crowded (Split left) (word m 3) (length t.leaves)) (refuse NoRoom) (rewriting t s (fillings (Split left) (word m 3) t.leaves last (ps ++ [])) [] s.after) (Regroups gs n)
      (λ full. tt) (λ room. two_lists (record { leaf = one; content = take left (ps ++ []) }) (record { leaf = two; content = drop left (ps ++ []) }) (Some two))
  rewritten_regroups ps Merge = joined_lists (record { leaf = one; content = ps ++ all_pairs o m (take 1 s.after) }) (Some one) s.after refl
  rewritten_regroups ps Replace = one_lists (record { leaf = one; content = ps ++ [] }) (Some one) s.after refl

  carried_regroups : (choose : Choice) (d : Deed) (x : Wish) → Regroups gs n (carried choose o m t s d x)
  carried_regroups choose d (declined e) = tt
  carried_regroups choose d granted = tt
  carried_regroups choose d (elements xs) =
      let ps = all_applied o (key_of d) xs (pairs_of o m s.leaf) in
      cond_both (leb (count_of m s.leaf + length xs) 16) _ _ (Regroups gs n) (λ fits. kept_lists) (λ full. rewritten_regroups ps _)

  pub plan_regroups : (choose : Choice) (d : Deed) → Regroups gs n (plan_at choose o m t s d)
  plan_regroups choose d = carried_regroups choose d (wish d (lookup (key_of d) (pairs_of o m s.leaf)))
