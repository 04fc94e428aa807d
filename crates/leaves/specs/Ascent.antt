-- Pairs in the order of their keys.
use Rattle.std.specs.Prelude.{◌≡◌, ℕ, zero, suc, true, cond, List, [], ◌∷◌, ◌++◌, ◌==◌}
use Rattle.keys.specs.InWords.{WordKind}
use Rattle.leaves.specs.declared.leaf.Pair.{Pair}
use Rattle.leaves.specs.Layout.{count_of, next_of}
use Rattle.leaves.specs.Pairs.{pairs}

-- P holds of every key.
abbrev pub Each : (ℕ × ℕ → Type 0) → List Pair → Type 0
Each P [] = Unit {0}
Each P (p ∷ ps) = P p.key × Each P ps

-- Every key is before all that follow it, so that no key stands twice.
abbrev pub Ascending : WordKind → List Pair → Type 0
Ascending o [] = Unit {0}
Ascending o (p ∷ ps) = Each (λ k. o.before p.key k ≡ true) ps × Ascending o ps

-- The pairs of some leaves, one leaf after the other.
abbrev pub all_pairs : WordKind → List ℕ → List ℕ → List Pair
all_pairs o m [] = []
all_pairs o m (k ∷ ks) = pairs o m k (count_of m k) ++ all_pairs o m ks

-- The leaves that a link leads to, at most n of them.
abbrev pub chain : List ℕ → ℕ → ℕ → List ℕ
chain m zero link = []
chain m (suc n) link = cond (link == 0) [] (link ∷ chain m n (next_of m link))
