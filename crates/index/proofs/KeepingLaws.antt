-- The bounds still ascend after a split of a leaf.
use Rattle.std.proofs.Common.{◌≡◌, ℕ, zero, suc, ◌+◌, ◌<◌, true, leb, ◌≢◌, List, [], ◌∷◌, length, Some, get_or, set, refl, ap, ◌∙◌, arith, length-set}
use lib.ListN.{length-map}
use Rattle.keys.specs.InWords.{WordKind, WordOrdered}
use Rattle.index.specs.declared.node.Entry.{Entry}
use Rattle.index.specs.Nodes.{bounds, joined, parted}
use Rattle.index.specs.Search.{concat, last, front, Above, Ascending}
use Rattle.index.specs.Showing.{telling, node_told}
use Rattle.std.proofs.lemmas.Bool.{cond-true, lt-ltb}
use Rattle.index.specs.Shape.{lowest, table}
use Rattle.index.specs.Places.{group_of, position, place_after}
use Rattle.index.specs.Keeping.{AscendsWith, AscendsStill, FitsAt, SplitAscends, MergeAscends, ReplaceKeeps, ReplaceOneNode, SplitOneNode}
use Rattle.index.proofs.PlaceLaws.{Within, within_parts, after_parts}
use Rattle.index.proofs.ListLaws.{offset_within}
use Rattle.index.specs.declared.table.Place.{Place}
use Rattle.index.proofs.ChangeLaws.{bounds_renamed, last_parted, table_kept}

abbrev put : List (ℕ × ℕ) → ℕ → ℕ × ℕ → List (ℕ × ℕ)
put [] p b = []
put (c ∷ cs) zero b = b ∷ c ∷ cs
put (c ∷ cs) (suc p) b = c ∷ put cs p b

bounds_parted : (es : List Entry) (p left : ℕ) (b : ℕ × ℕ) (right : ℕ) → bounds (parted es p left b right) ≡ put (bounds es) p b
bounds_parted [] p left b right = refl
bounds_parted (e ∷ es) zero left b right = refl
bounds_parted (e ∷ es) (suc p) left b right = ap (λ bs. e.bound ∷ bs) (bounds_parted es p left b right)

front_cons : (c : ℕ × ℕ) (bs : List (ℕ × ℕ)) → 0 < length bs → front (c ∷ bs) ≡ c ∷ front bs
front_cons c [] h = absurd (omega arith)
front_cons c (b ∷ bs) h = refl

put_some : (bs : List (ℕ × ℕ)) (p : ℕ) (b : ℕ × ℕ) → 0 < length bs → 0 < length (put bs p b)
put_some [] p b h = h
put_some (c ∷ cs) zero b h = omega arith
put_some (c ∷ cs) (suc p) b h = omega arith

module _ (o : WordKind) (laws : WordOrdered o) where
  above_trans : (b c : ℕ × ℕ) (xs : List (ℕ × ℕ)) → o.before b c ≡ true → Above o c xs → Above o b xs
  above_trans b c [] h k = tt
  above_trans b c (x ∷ xs) h k = (laws.transitive b c x h k.0, above_trans b c xs h k.1)

  above_put : (c : ℕ × ℕ) (bs : List (ℕ × ℕ)) (p : ℕ) (b : ℕ × ℕ) → p < length bs → o.before c b ≡ true → Above o c (front bs) → Above o c (front (put bs p b))
  above_put c [] p b h t a = tt
  above_put c (x ∷ xs) zero b h t a = (t, a)
  above_put c (x ∷ []) (suc p) b h t a = absurd (omega arith)
  above_put c (x ∷ y ∷ ys) (suc p) b h t a =
      rw (front_cons x (put (y ∷ ys) p b) (put_some (y ∷ ys) p b (omega arith))) (a.0, above_put c (y ∷ ys) p b (omega arith) t a.1)

  put_ascends : (bs : List (ℕ × ℕ)) (p : ℕ) (b : ℕ × ℕ) → p < length bs → Ascending o (front bs) → FitsAt o bs p b → Ascending o (front (put bs p b))
  put_ascends [] p b h a f = tt
  put_ascends (c ∷ []) zero b h a f = (tt, tt)
  put_ascends (c ∷ d ∷ ds) zero b h a f =
      let t = f.1 (omega arith) in ((t, above_trans b c (front (d ∷ ds)) t a.0), a)
  put_ascends (c ∷ []) (suc p) b h a f = absurd (omega arith)
  put_ascends (c ∷ d ∷ ds) (suc p) b h a f =
      rw (front_cons c (put (d ∷ ds) p b) (put_some (d ∷ ds) p b (omega arith))) (
        above_put c (d ∷ ds) p b (omega arith) (f.0 0 (omega arith)) a.0,
        put_ascends (d ∷ ds) p b (omega arith) a.1 (λ i k. f.0 (suc i) (omega arith), λ k. f.1 (omega arith)),
      )

pub split_ascends : SplitAscends
split_ascends es p left b right h o laws a f =
    let long : p < length (bounds es) = simp length-map h in
    rw (bounds_parted es p left b right) (put_ascends o laws (bounds es) p b long a f)

-- The list without the bound at p.
abbrev removed : List (ℕ × ℕ) → ℕ → List (ℕ × ℕ)
removed [] p = []
removed (c ∷ cs) zero = cs
removed (c ∷ cs) (suc p) = c ∷ removed cs p

bounds_joined : (es : List Entry) (p leaf : ℕ) → bounds (joined es p leaf) ≡ removed (bounds es) p
bounds_joined [] p leaf = refl
bounds_joined (e ∷ es) zero leaf = bounds_renamed es 0 leaf
bounds_joined (e ∷ es) (suc p) leaf = ap (λ bs. e.bound ∷ bs) (bounds_joined es p leaf)

removed_some : (bs : List (ℕ × ℕ)) (p : ℕ) → p + 1 < length bs → 0 < length (removed bs p)
removed_some [] p h = absurd (omega arith)
removed_some (c ∷ cs) zero h = omega arith
removed_some (c ∷ cs) (suc p) h = omega arith

front_removed : (bs : List (ℕ × ℕ)) (p : ℕ) → p + 1 < length bs → front (removed bs p) ≡ removed (front bs) p
front_removed [] p h = refl
front_removed (c ∷ []) p h = absurd (omega arith)
front_removed (c ∷ d ∷ ds) zero h = refl
front_removed (c ∷ d ∷ ds) (suc p) h =
    front_cons c (removed (d ∷ ds) p) (removed_some (d ∷ ds) p (omega arith)) ∙ ap (λ bs. c ∷ bs) (front_removed (d ∷ ds) p (omega arith))

module _ (o : WordKind) where
  above_removed : (b : ℕ × ℕ) (xs : List (ℕ × ℕ)) (p : ℕ) → Above o b xs → Above o b (removed xs p)
  above_removed b [] p a = tt
  above_removed b (x ∷ xs) zero a = a.1
  above_removed b (x ∷ xs) (suc p) a = (a.0, above_removed b xs p a.1)

  removed_ascends : (xs : List (ℕ × ℕ)) (p : ℕ) → Ascending o xs → Ascending o (removed xs p)
  removed_ascends [] p a = tt
  removed_ascends (x ∷ xs) zero a = a.1
  removed_ascends (x ∷ xs) (suc p) a = (above_removed x xs p a.0, removed_ascends xs p a.1)

pub merge_ascends : MergeAscends
merge_ascends es p leaf h o a =
    let long : p + 1 < length (bounds es) = simp length-map h in
    rw (bounds_joined es p leaf, front_removed (bounds es) p long) (removed_ascends o (front (bounds es)) p a)

pub replace_keeps : ReplaceKeeps
replace_keeps = bounds_renamed

-- A change of one group that keeps its last bound is told of one node alone.
told_kept : (gs : List (List Entry)) (g : ℕ) (new : List Entry) → g < length gs → last (bounds new) ≡ last (bounds (get_or gs g [])) → (i : ℕ) → i ≢ lowest (length gs) + g → node_told (set gs g new) i ≡ node_told gs i
told_kept gs g new h keeps i ne =
    ap (λ n. telling (leb (lowest n) i) (table (set gs g new) i)) (length-set gs g new) ∙ ap (telling (leb (lowest (length gs)) i)) (table_kept gs g new h keeps i ne)

pub replace_one_node : ReplaceOneNode
replace_one_node gs p leaf i t ne =
    told_kept gs p.group _ (within_parts gs p t).0 (ap last (bounds_renamed (group_of gs p) p.slot leaf)) i ne

pub split_one_node : SplitOneNode
split_one_node gs p left b right i t few ne =
    let w = within_parts gs p t in
    ap (λ hs. node_told hs i) (cond-true _ _ _ (lt-ltb (length (group_of gs p)) 5 few))
    ∙ told_kept gs p.group _ w.0 (last_parted (group_of gs p) p.slot left b right w.1) i ne

-- The same of all leaves of an index.
pub split_keeps : (gs : List (List Entry)) (p : Place) (left : ℕ) (b : ℕ × ℕ) (right : ℕ) {new : List Entry} → Within gs p → new ≡ parted (concat gs) (position gs p) left b right → AscendsWith (concat gs) (position gs p) b new
split_keeps gs p left b right w e o laws up fits =
    rw e (split_ascends (concat gs) (position gs p) left b right (offset_within gs p.group p.slot w.0 w.1) o laws up fits)

pub merge_keeps : (gs : List (List Entry)) (p q : Place) (leaf : ℕ) {new : List Entry} → place_after gs p ≡ Some q → new ≡ joined (concat gs) (position gs p) leaf → AscendsStill (concat gs) new
merge_keeps gs p q leaf after e o up =
    let w = after_parts gs p q after in
    rw e (merge_ascends (concat gs) (position gs p) leaf (omega (arith, w.2, offset_within gs q.group q.slot w.1.0 w.1.1)) o up)
