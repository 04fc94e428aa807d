-- Bounds between leaves, and locating by them.
use Rattle.std.specs.Prelude.{◌≡◌, ℕ, suc, ◌<◌, true, false, cond, List, [], ◌∷◌, ◌++◌, length, Some, None, Ok, Option}
use Rattle.keys.specs.InWords.{WordKind, WordOrdered}
use Rattle.leaves.specs.Layout.{element, count_of}
use Rattle.leaves.specs.Opening.{greatest, open_answer}

-- P holds of every counted key of the leaves.
abbrev pub Keys : (ℕ × ℕ → Type 0) → List ℕ → List ℕ → Type 0
Keys P m [] = Unit {0}
Keys P m (k ∷ ks) = ((s : ℕ) → s < count_of m k → P (element m k s).key) × Keys P m ks

-- No counted key of leaf k is after b.
abbrev pub AtMost : WordKind → List ℕ → ℕ × ℕ → ℕ → Type 0
AtMost o m b k = (s : ℕ) → s < count_of m k → o.before b (element m k s).key ≡ false

-- A bound for each leaf but the last: its keys are not after it, all later ones are.
abbrev pub Bounded : WordKind → List ℕ → List ℕ → List (ℕ × ℕ) → Type 0
Bounded o m [] bs = ⊥
Bounded o m (k ∷ []) [] = Unit {0}
Bounded o m (k ∷ []) (b ∷ bs) = ⊥
Bounded o m (k ∷ l ∷ ks) [] = ⊥
Bounded o m (k ∷ l ∷ ks) (b ∷ bs) = AtMost o m b k × Keys (λ x. o.before b x ≡ true) m (l ∷ ks) × Bounded o m (l ∷ ks) bs

-- The place of the first bound that is not before the key, otherwise of the last leaf.
abbrev pub locate : WordKind → ℕ × ℕ → List (ℕ × ℕ) → ℕ
locate o w [] = 0
locate o w (b ∷ bs) = cond (o.before b w) (suc (locate o w bs)) 0

-- The leaf at that place, with all counted keys before it below w and all after it above.
pub record Place (o : WordKind) (m ks : List ℕ) (bs : List (ℕ × ℕ)) (w : ℕ × ℕ) : Type 0 where
  pub pre : List ℕ
  pub leaf : ℕ
  pub post : List ℕ
  pub leaves : ks ≡ pre ++ leaf ∷ post
  pub place : length pre ≡ locate o w bs
  pub above : Keys (λ a. o.before a w ≡ true) m pre
  pub below : Keys (λ a. o.before w a ≡ true) m post

abbrev pub Locates : Type 0
Locates = (o : WordKind) → WordOrdered o → (m ks : List ℕ) (bs : List (ℕ × ℕ)) (w : ℕ × ℕ) → Bounded o m ks bs → Place o m ks bs w

-- The bounds at opening: the greatest counted keys.
abbrev pub value : Option (ℕ × ℕ) → ℕ × ℕ
value None = (0, 0)
value (Some k) = k

abbrev pub bounds_of : WordKind → List ℕ → List ℕ → List (ℕ × ℕ)
bounds_of o m [] = []
bounds_of o m (k ∷ []) = []
bounds_of o m (k ∷ l ∷ ks) = value (greatest o m k (count_of m k)) ∷ bounds_of o m (l ∷ ks)

abbrev pub OpeningBounds : Type 0
OpeningBounds = (o : WordKind) → WordOrdered o → (m ks : List ℕ) → open_answer o m ≡ Ok ks → Bounded o m ks (bounds_of o m ks)
