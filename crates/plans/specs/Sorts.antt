-- What the sorts of plans come to: appends where there is room, and the bounds after a split, a merge and a replacement.
use Rattle.std.specs.Prelude.{◌≡◌, ℕ, ◌+◌, ◌≤◌, false, ◌≢◌, List, [], ◌∷◌, ◌++◌, take, drop, Some, None}
use Rattle.keys.specs.InWords.{WordKind, WordOrdered}
use Rattle.leaves.specs.declared.leaf.Pair.{Pair}
use Rattle.leaves.specs.Layout.{count_of}
use Rattle.leaves.specs.Pairs.{lookup}
use Rattle.leaves.specs.Ascent.{Each, Ascending}
use Rattle.writes.specs.Writes.{cost}
use Rattle.writes.specs.Laws.{change}
use Rattle.books.specs.Footprint.{book}
use Rattle.appends.specs.Calls.{put_elements, change_elements, remove_elements}
use Rattle.rewrites.specs.Rewrite.{Filling}
use Rattle.rewrites.specs.Bounds.{bounds_after, last_key}
use Rattle.plans.specs.declared.deed.Deed.TheVariants.{Put, Change, Remove}
use Rattle.plans.specs.Told.{Choice}
use Rattle.plans.specs.Plan.{Tree, Plan, refuse, nothing, writes, site, appending, plan_by}
use Rattle.plans.specs.Laws.{Sound}

-- The steps of a plan that is granted.
abbrev pub steps_of : Plan → ℕ
steps_of (refuse e) = 0
steps_of nothing = 0
steps_of (writes before commit after) = cost (change before commit)

-- A plan appends these elements to leaf k, in so many steps.
abbrev pub AppendsIn : List ℕ → Tree → ℕ → ℕ × ℕ → List (ℕ × ℕ) → ℕ → Plan → Type 0
AppendsIn m t k w xs steps p = (p ≡ appending m t k w xs) × (steps_of p ≡ steps)

-- A put or remove appends in 7 steps where the leaf k of its key has room for one element, a change in 12 where it has room for two.
pub record Appending (choose : Choice) (o : WordKind) (m : List ℕ) (t : Tree) (w : ℕ × ℕ) (k : ℕ) : Type 0 where
  pub put : (r : ℕ) → lookup w (book o m) ≡ None → count_of m k + 1 ≤ 16 → AppendsIn m t k w (put_elements r) 7 (plan_by choose o m t (Put w r))
  pub change : (old r : ℕ) → lookup w (book o m) ≡ Some old → old ≢ r → count_of m k + 2 ≤ 16 → AppendsIn m t k w (change_elements old r) 12 (plan_by choose o m t (Change w r))
  pub remove : (old : ℕ) → lookup w (book o m) ≡ Some old → count_of m k + 1 ≤ 16 → AppendsIn m t k w (remove_elements old) 7 (plan_by choose o m t (Remove w))

abbrev pub AppendsWithRoom : Type 0
AppendsWithRoom =
    (choose : Choice) (o : WordKind) → WordOrdered o → (m : List ℕ) (t : Tree) (w : ℕ × ℕ) →
    Sound o m t → Appending choose o m t w (site o t w).leaf

-- The bounds after a rewrite of the leaf at a place.
pub record NewBounds (place : ℕ) (bs : List (ℕ × ℕ)) : Type 0 where
  -- The left leaf of a split has its last key as its bound, the right one the bound that was there, if there was one.
  pub split : (f g : Filling) → bounds_after place 0 (f ∷ g ∷ []) bs ≡ take place bs ++ (last_key f.content ∷ drop place bs)
  -- The leaf of a replacement has the bound that was there.
  pub replace : (f : Filling) → bounds_after place 0 (f ∷ []) bs ≡ bs
  -- The leaf of a merge has the bound of the next leaf.
  pub merge : (f : Filling) → bounds_after place 1 (f ∷ []) bs ≡ take place bs ++ drop (place + 1) bs

abbrev pub BoundsMove : Type 0
BoundsMove = (place : ℕ) (bs : List (ℕ × ℕ)) → NewBounds place bs

-- The last key of pairs that ascend is the greatest.
abbrev pub LastIsGreatest : Type 0
LastIsGreatest = (o : WordKind) → WordOrdered o → (ps : List Pair) → Ascending o ps → Each (λ x. o.before (last_key ps) x ≡ false) ps
