-- A change of one group that keeps its last bound changes one node.
use Rattle.std.proofs.Common.{◌≡◌, ℕ, zero, suc, ◌+◌, ◌-◌, ◌<◌, ◌≤◌, cond, ltb, ◌≢◌, List, [], ◌∷◌, map, length, get_or, take, drop, set, sym, refl, ap, ◌∙◌, subst, ⊎_elim, arith, length-set, get_or-set_other, get_or-set_same}
use lib.ListN
use lib.ListN.{length-map}
use lib.Seq.{map-set, set-get_or, take-set-lt, drop-set-add}
use Rattle.std.proofs.lemmas.Bool.{cond-true, cases_eq, cases_Bool, ltb-false}
use Rattle.index.specs.declared.node.Entry.{Entry}
use Rattle.index.specs.declared.node.Node.{Node}
use Rattle.index.specs.declared.table.Index.{Index}
use Rattle.index.specs.Meaning.{grouped}
use Rattle.index.proofs.LocateLaws.{length_grouped, low_node}
use Rattle.std.proofs.lemmas.List.{get_or-map, take-map, drop-map}
use Rattle.index.specs.Nodes.{items, bounds, parted, renamed}
use Rattle.index.specs.Search.{last, Full, Small}
use Rattle.index.specs.Shape.{lasts, lowest, upper, table, groups, Sound}
use Rattle.index.proofs.BuildLaws.{same_is, same_of, table_low, lowest_le}

pub bounds_renamed : (es : List Entry) (s leaf : ℕ) → bounds (renamed es s leaf) ≡ bounds es
bounds_renamed [] s leaf = refl
bounds_renamed (e ∷ es) zero leaf = refl
bounds_renamed (e ∷ es) (suc s) leaf = ap (λ bs. e.bound ∷ bs) (bounds_renamed es s leaf)

last_cons : (b : ℕ × ℕ) (bs : List (ℕ × ℕ)) → 0 < length bs → last (b ∷ bs) ≡ last bs
last_cons b [] h = absurd (omega arith)
last_cons b (c ∷ bs) h = refl

pub length_parted : (es : List Entry) (s left : ℕ) (b : ℕ × ℕ) (right : ℕ) → s < length es → length (parted es s left b right) ≡ length es + 1
length_parted [] s left b right h = absurd (omega arith)
length_parted (e ∷ es) zero left b right h = omega arith
length_parted (e ∷ es) (suc s) left b right h = let more = length_parted es s left b right (omega arith) in omega arith

pub last_parted : (es : List Entry) (s left : ℕ) (b : ℕ × ℕ) (right : ℕ) → s < length es → last (bounds (parted es s left b right)) ≡ last (bounds es)
last_parted [] s left b right h = absurd (omega arith)
last_parted (e ∷ es) zero left b right h = refl
last_parted (e ∷ es) (suc s) left b right h =
    let new : 0 < length (bounds (parted es s left b right)) = simp length-map (omega (arith, length_parted es s left b right (omega arith))) in
    let old : 0 < length (bounds es) = simp length-map (omega arith) in
    last_cons e.bound (bounds (parted es s left b right)) new ∙ last_parted es s left b right (omega arith) ∙ sym (last_cons e.bound (bounds es) old)

module _ (gs : List (List Entry)) (g : ℕ) (new : List Entry) (h : g < length gs) (keeps : last (bounds new) ≡ last (bounds (get_or gs g []))) where
  lasts_kept : lasts (set gs g new) ≡ lasts gs
  lasts_kept =
      map-set (λ x. last (bounds x)) gs g new
      ∙ ap (set (lasts gs) g) (keeps ∙ sym (ListN.get_or-map (λ x. last (bounds x)) gs g []))
      ∙ set-get_or (lasts gs) g (last (bounds []))

  length_kept : length (set gs g new) ≡ length gs
  length_kept = length-set gs g new

  pub table_kept : (i : ℕ) → i ≢ lowest (length gs) + g → table (set gs g new) i ≡ table gs i
  table_kept i ne =
      rw (length_kept, lasts_kept)
      (⊎_elim
      (λ t. cond-true _ _ _ t ∙ sym (cond-true _ _ _ t))
      (λ f.
      let low = ltb-false i (lowest (length gs)) f in
      let other : i - lowest (length gs) ≢ g = λ e. ne (omega arith) in
      ap (cond (ltb i (lowest (length gs))) (upper (length gs) (lasts gs) i)) (get_or-set_other gs g (i - lowest (length gs)) new [] other))
      (cases_Bool (ltb i (lowest (length gs)))))

  table_new : table (set gs g new) (lowest (length gs) + g) ≡ new
  table_new = ap (λ n. table (set gs g new) (lowest n + g)) (sym length_kept) ∙ table_low (set gs g new) g ∙ get_or-set_same gs g new [] h

module _ (x : Index) (g : ℕ) (new : List Entry) (nodes : List Node) (h : g < length (grouped x)) (keeps : last (bounds new) ≡ last (bounds (get_or (grouped x) g []))) (is : map items nodes ≡ set (map items x.nodes) (lowest x.used + g) new) where
  groups_changed : groups x.used nodes ≡ set (grouped x) g new
  unfolding grouped
  groups_changed =
      let n = length_grouped x in
      ap (λ v. take x.used (drop (lowest x.used) v)) is
      ∙ ap (take x.used) (drop-set-add (lowest x.used) (map items x.nodes) g new)
      ∙ take-set-lt x.used (drop (lowest x.used) (map items x.nodes)) g new (omega (arith, n, h))

  each_changed : (P : List Entry → Type 0) → P new → ((k : ℕ) → k < length (grouped x) → P (get_or (grouped x) k [])) → (k : ℕ) → k < length (groups x.used nodes) → P (get_or (groups x.used nodes) k [])
  unfolding grouped
  each_changed P here all k below =
      let within : k < length (grouped x) = omega (arith, below, ap length groups_changed, length_kept (grouped x) g new h keeps) in
      ⊎_elim
      (λ e. let at : get_or (groups x.used nodes) k [] ≡ new = ap (λ gs. get_or gs k []) groups_changed ∙ ap (λ j. get_or (set (grouped x) g new) j []) e ∙ get_or-set_same (grouped x) g new [] h in subst P (sym at) here)
      (λ ne. let at : get_or (groups x.used nodes) k [] ≡ get_or (grouped x) k [] = ap (λ gs. get_or gs k []) groups_changed ∙ get_or-set_other (grouped x) g k new [] ne in subst P (sym at) (all k within))
      (cases_eq k g)

  sound_changed : Sound x.used nodes
  unfolding grouped
  sound_changed i small =
      let gs = grouped x in
      let low : lowest x.used + g ≡ lowest (length gs) + g = ap (λ n. lowest n + g) (sym (length_grouped x)) in
      let long : lowest x.used + g < length (map items x.nodes) = rw length-map (omega (arith, h, length_grouped x, lowest_le x.used, x.size.1, x.size.2)) in
      same_of _ _
      (ap (λ v. get_or v i []) is
      ∙ ⊎_elim
      (λ e. rw e (get_or-set_same (map items x.nodes) (lowest x.used + g) new [] long) ∙ sym (ap (table (set gs g new)) (e ∙ low) ∙ table_new gs g new h keeps))
      (λ ne. get_or-set_other (map items x.nodes) (lowest x.used + g) i new [] ne ∙ same_is _ _ (x.sound i small) ∙ sym (table_kept gs g new h keeps i (λ e. ne (e ∙ sym low))))
      (cases_eq i (lowest x.used + g))
      ∙ ap (λ gs. table gs i) (sym groups_changed))

-- One node of a table changed.
pub node_set : (nodes : List Node) (at : ℕ) (d n : Node) (f : List Entry → List Entry) → at < length nodes → items n ≡ f (items (get_or nodes at d)) → map items (set nodes at n) ≡ set (map items nodes) at (f (get_or (map items nodes) at []))
node_set nodes at d n f h e = map-set items nodes at n ∙ ap (set (map items nodes) at) (e ∙ ap f (sym (get_or-map items nodes at d [] h)))

-- The node of a group has the group.
pub group_at : (x : Index) (g at : ℕ) → g < length (grouped x) → at ≡ lowest x.used + g → get_or (map items x.nodes) at [] ≡ get_or (grouped x) g []
unfolding grouped
group_at x g at h is =
    let low = low_node x (lowest x.used) g refl h in
    ap (λ i. get_or (map items x.nodes) i []) is ∙ same_is _ _ (x.sound _ low.0) ∙ low.1

-- What a change of the node of one group leaves of an index.
pub record Changed (x : Index) (g : ℕ) (new : List Entry) (nodes : List Node) : Type 0 where
  pub all : groups x.used nodes ≡ set (grouped x) g new
  pub long : length nodes ≡ 91
  pub full : 0 < length new → Full (groups x.used nodes)
  pub small : length new ≤ 5 → Small (groups x.used nodes)
  pub sound : Sound x.used nodes

pub changed : (x : Index) (g at : ℕ) (f : List Entry → List Entry) (nodes : List Node) → g < length (grouped x) → at ≡ lowest x.used + g → map items nodes ≡ set (map items x.nodes) at (f (get_or (map items x.nodes) at []))
    → last (bounds (f (get_or (grouped x) g []))) ≡ last (bounds (get_or (grouped x) g [])) → Changed x g (f (get_or (grouped x) g [])) nodes
unfolding grouped
changed x g at f nodes h here e keeps =
    let new = f (get_or (grouped x) g []) in
    let is : map items nodes ≡ set (map items x.nodes) (lowest x.used + g) new =
    e ∙ ap (λ v. set (map items x.nodes) at (f v)) (group_at x g at h here) ∙ ap (λ i. set (map items x.nodes) i new) here in
    record {
      all = groups_changed x g new nodes h keeps is;
      long = sym (length-map nodes items) ∙ ap length is ∙ length-set (map items x.nodes) (lowest x.used + g) new ∙ length-map x.nodes items ∙ x.size.2;
      full = λ some. each_changed x g new nodes h keeps is (λ es. 0 < length es) some x.full;
      small = λ few. each_changed x g new nodes h keeps is (λ es. length es ≤ 5) few x.small;
      sound = sound_changed x g new nodes h keeps is;
    }

-- The nodes of the groups.
pub groups_part : (nodes : List Node) (used low : ℕ) → low ≡ lowest used → map items (take (low + used - low) (drop low nodes)) ≡ groups used nodes
groups_part nodes used low is =
    let n : low + used - low ≡ used = omega arith in
    rw (n, is) (sym (ap (take used) (drop-map items (lowest used) nodes) ∙ take-map items used (drop (lowest used) nodes)))

pub group_count : (nodes : List Node) (gs : List (List Entry)) → map items nodes ≡ gs → length nodes ≡ length gs
group_count nodes gs e = sym (length-map nodes items) ∙ ap length e

pub node_group : (nodes : List Node) (gs : List (List Entry)) (g : ℕ) (d n : Node) → map items nodes ≡ gs → g < length gs → n ≡ get_or nodes g d → items n ≡ get_or gs g []
node_group nodes gs g d n e h is = ap items is ∙ sym (get_or-map items nodes g d [] (omega (arith, h, group_count nodes gs e))) ∙ ap (λ v. get_or v g []) e

pub group_read : (nodes : List Node) (gs : List (List Entry)) (g : ℕ) (d : Node) → map items nodes ≡ gs → g < length gs → items (get_or nodes g d) ≡ get_or gs g []
group_read nodes gs g d e h = node_group nodes gs g d (get_or nodes g d) e h refl

pub length_renamed : (es : List Entry) (s leaf : ℕ) → length (renamed es s leaf) ≡ length es
length_renamed [] s leaf = refl
length_renamed (e ∷ es) zero leaf = refl
length_renamed (e ∷ es) (suc s) leaf = ap suc (length_renamed es s leaf)
