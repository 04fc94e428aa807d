-- The code of a rewrite into one or two new leaves makes the line writes of that rewrite.
use Rattle.std.proofs.Common.{◌≡◌, ℕ, ◌-◌, ◌≤◌, true, List, [], ◌∷◌, ◌++◌, take, drop, sym, refl, append_assoc, arith}
use Rattle.std.proofs.lemmas.List.{append-nil, take-append-drop}
use Rattle.std.proofs.lemmas.Bool.Decides.{nat_tests}
use Rattle.leaves.specs.declared.leaf.Pair.{Pair}
use Rattle.leaves.specs.Layout.{leaf_at}
use Rattle.writes.specs.Writes.{single}
use Rattle.rewrites.specs.Rewrite.{Filling, contents, first_leaf, leaf_lines, link_at, rewrite_lines}
use Rattle.rewrites.specs.Shares.{shared}

-- The word that links what comes after one leaf more.
pub link_after : (at : ℕ) (pre : List ℕ) (k : ℕ) → link_at at (pre ++ (k ∷ [])) ≡ leaf_at k
link_after at [] k = refl
link_after at (j ∷ pre) k = link_after (leaf_at j) pre k

module _ (pre post : List ℕ) {at next : ℕ} (links : link_at 2 pre ≡ at) (names : first_leaf post ≡ next) where
  pub one_lines : (f : Filling) → leaf_lines next f ++ (single (record { at = at; word = f.leaf }) ∷ []) ≡ rewrite_lines pre (f ∷ []) post
  one_lines f = rw (links, names, append-nil) refl

  pub two_lines : (f g : Filling)
      → leaf_lines g.leaf f ++ (leaf_lines next g ++ (single (record { at = at; word = f.leaf }) ∷ [])) ≡ rewrite_lines pre (f ∷ g ∷ []) post
  two_lines f g = rw (links, names, append-nil) (sym (append_assoc (leaf_lines g.leaf f) (leaf_lines next g) (single (record { at = at; word = f.leaf }) ∷ [])))

-- The new leaves of a rewrite take all pairs that it writes.
pub one_content : (leaf : ℕ) (ps : List Pair) → contents (record { leaf = leaf; content = ps } ∷ []) ≡ ps
one_content leaf ps = append-nil ps

pub two_contents : (left right share : ℕ) (ps : List Pair)
    → contents (record { leaf = left; content = take share ps } ∷ record { leaf = right; content = drop share ps } ∷ []) ≡ ps
two_contents left right share ps = rw append-nil (take-append-drop share ps)

-- What is asked of two leaves.
pub record Shared (left right n share : ℕ) : Type 0 where
  pub left_some : 1 ≤ left
  pub left_most : left ≤ 64
  pub right_some : 1 ≤ right
  pub right_most : right ≤ 64
  pub all : n ≤ 17
  pub part : share ≤ n
  pub first : share ≤ 16
  pub others : n - share ≤ 16

pub shared_parts : (left right n share : ℕ) → shared left right n share ≡ true → Shared left right n share
shared_parts left right n share t = record {
  left_some = grind (arith, nat_tests);
  left_most = grind (arith, nat_tests);
  right_some = grind (arith, nat_tests);
  right_most = grind (arith, nat_tests);
  all = grind (arith, nat_tests);
  part = grind (arith, nat_tests);
  first = grind (arith, nat_tests);
  others = grind (arith, nat_tests);
}

pub shared_of : (left right n share : ℕ) → Shared left right n share → shared left right n share ≡ true
shared_of left right n share s = grind (arith, nat_tests)
