-- The bounds between leaves after a rewrite.
use Rattle.std.specs.Prelude.{◌≡◌, ℕ, ◌+◌, List, [], ◌∷◌, ◌++◌, length, take, drop}
use Rattle.keys.specs.InWords.{WordKind, WordOrdered}
use Rattle.leaves.specs.declared.leaf.Pair.{Pair}
use Rattle.writes.specs.Writes.{finished}
use Rattle.books.specs.Bounds.{Bounded, locate}
use Rattle.rewrites.specs.Rewrite.{Filling, leaf_numbers, rewrite_lines, Rewritable}

-- The key of the last pair.
abbrev pub last_key : List Pair → ℕ × ℕ
last_key [] = (0, 0)
last_key (p ∷ []) = p.key
last_key (p ∷ q ∷ ps) = last_key (q ∷ ps)

-- Each new leaf but the last gets its last key as its bound.
abbrev pub inner_bounds : List Filling → List (ℕ × ℕ)
inner_bounds [] = []
inner_bounds (f ∷ []) = []
inner_bounds (f ∷ g ∷ fs) = last_key f.content ∷ inner_bounds (g ∷ fs)

-- The bounds after a rewrite of the leaf at a place and so many that merge with it; the last new leaf has the bound of the last that goes.
abbrev pub bounds_after : ℕ → ℕ → List Filling → List (ℕ × ℕ) → List (ℕ × ℕ)
bounds_after place merged fs bs = take place bs ++ (inner_bounds fs ++ drop (place + merged) bs)

-- A rewrite of the leaf where the bounds put the key gives bounds that part the keys again.
abbrev pub RewriteBounds : Type 0
RewriteBounds =
    (o : WordKind) → WordOrdered o → (m pre : List ℕ) (k : ℕ) (more post : List ℕ) (w : ℕ × ℕ) (xs : List (ℕ × ℕ)) (fs : List Filling) (bs : List (ℕ × ℕ)) →
    Rewritable o m pre k more post w xs fs → length pre ≡ locate o w bs → Bounded o m (pre ++ ((k ∷ more) ++ post)) bs →
    Bounded o (finished m (rewrite_lines pre fs post)) (pre ++ (leaf_numbers fs ++ post)) (bounds_after (length pre) (length more) fs bs)
