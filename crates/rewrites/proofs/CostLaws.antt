-- The steps of a rewrite.
use Rattle.std.proofs.Common.{◌≡◌, ℕ, ◌+◌, ◌*◌, ◌/◌, ◌≤◌, List, [], ◌∷◌, ◌++◌, length, length-append, arith}
use Rattle.leaves.specs.declared.leaf.Pair.{Pair}
use Rattle.leaves.specs.Layout.{leaf_at}
use Rattle.writes.specs.Writes.{cost, single, row}
use Rattle.writes.proofs.Places.{cost_append}
use Rattle.rewrites.specs.Rewrite.{Filling, contents, leaf_numbers, first_leaf, pair_lines, leaf_lines, leaves_lines, link_commit, leaves_steps, LeafCost, RewriteCost, CostsFew}

pair_lines_cost : (k s : ℕ) (ps : List Pair) → cost (pair_lines k s ps) ≡ 4 * length ps + (length ps + 1) / 2
pair_lines_cost k s [] = omega arith
pair_lines_cost k s (p ∷ []) = omega arith
pair_lines_cost k s (p ∷ q ∷ ps) = omega (arith, pair_lines_cost k (s + 2) ps)

pub leaf_cost_holds : LeafCost
leaf_cost_holds next f =
    omega (arith, cost_append (pair_lines f.leaf 0 f.content) (row (leaf_at f.leaf) (next ∷ length f.content ∷ 0 ∷ []) ∷ []), pair_lines_cost f.leaf 0 f.content)

leaves_cost : (fs : List Filling) (post : List ℕ) → cost (leaves_lines fs post) ≡ leaves_steps fs
leaves_cost [] post = omega arith
leaves_cost (f ∷ fs) post =
    let next = first_leaf (leaf_numbers fs ++ post) in
    omega (arith, cost_append (leaf_lines next f) (leaves_lines fs post), leaf_cost_holds next f, leaves_cost fs post)

pub rewrite_cost_holds : RewriteCost
rewrite_cost_holds pre fs post = omega (arith, cost_append (leaves_lines fs post) (single (link_commit pre fs post) ∷ []), leaves_cost fs post)

most : (fs : List Filling) → length fs ≤ 2 → length (contents fs) ≤ 17 → leaves_steps fs ≤ 85
most [] two few = omega arith
most (f ∷ []) two few = omega (arith, length-append f.content [])
most (f ∷ g ∷ []) two few = omega (arith, length-append f.content (g.content ++ []), length-append g.content [])
most (f ∷ g ∷ h ∷ fs) two few = absurd (omega arith)

pub costs_few : CostsFew
costs_few = record {
  most = λ pre fs post two few. omega (arith, rewrite_cost_holds pre fs post, most fs two few);
  reached = λ pre f g post eight nine. omega (arith, rewrite_cost_holds pre (f ∷ g ∷ []) post);
}
