-- What holds of each pair, or of each counted key of leaves: lists of them taken apart and put together.
use Rattle.std.proofs.Common.{◌≡◌, ℕ, true, List, [], ◌∷◌, ◌++◌}
use Rattle.keys.specs.InWords.{WordKind}
use Rattle.leaves.specs.declared.leaf.Pair.{Pair}
use Rattle.leaves.specs.Layout.{element}
use Rattle.leaves.specs.Ascent.{Each, Ascending}
use Rattle.leaves.proofs.AscentLaws.{each_map}
use Rattle.books.specs.Bounds.{Keys}
use Rattle.books.proofs.BoundLaws.{keys_map}

-- The parts of what holds of each.
pub each_left : (P : ℕ × ℕ → Type 0) (ps qs : List Pair) → Each P (ps ++ qs) → Each P ps
each_left P [] qs h = tt
each_left P (p ∷ ps) qs h = (h.0, each_left P ps qs h.1)

pub each_right : (P : ℕ × ℕ → Type 0) (ps qs : List Pair) → Each P (ps ++ qs) → Each P qs
each_right P [] qs h = h
each_right P (p ∷ ps) qs h = each_right P ps qs h.1

module _ (o : WordKind) where
  pub ascending_left : (ps qs : List Pair) → Ascending o (ps ++ qs) → Ascending o ps
  ascending_left [] qs h = tt
  ascending_left (p ∷ ps) qs h = (each_left _ ps qs h.0, ascending_left ps qs h.1)

  pub ascending_right : (ps qs : List Pair) → Ascending o (ps ++ qs) → Ascending o qs
  ascending_right [] qs h = h
  ascending_right (p ∷ ps) qs h = ascending_right ps qs h.1

  -- All of the first are before all of the second.
  pub ascending_cross : (ps qs : List Pair) → Ascending o (ps ++ qs) → Each (λ x. Each (λ y. o.before x y ≡ true) qs) ps
  ascending_cross [] qs h = tt
  ascending_cross (p ∷ ps) qs h = (each_right _ ps qs h.0, ascending_cross ps qs h.1)

  -- All of the first are before a pair that follows them.
  pub before_next : (ps : List Pair) (q : Pair) (qs : List Pair) → Ascending o (ps ++ (q ∷ qs)) → Each (λ x. o.before x q.key ≡ true) ps
  before_next ps q qs h = each_map o _ _ (λ x e. e.0) ps (ascending_cross ps (q ∷ qs) h)

pub each_swap : (R : ℕ × ℕ → ℕ × ℕ → Type 0) (o : WordKind) (xs ys : List Pair) → Each (λ x. Each (λ y. R x y) ys) xs → Each (λ y. Each (λ x. R x y) xs) ys
each_swap R o xs [] h = tt
each_swap R o xs (y ∷ ys) h = (each_map o _ _ (λ x e. e.0) xs h, each_swap R o xs ys (each_map o _ _ (λ x e. e.1) xs h))

module _ (m : List ℕ) where
  pub keys_left : (P : ℕ × ℕ → Type 0) (xs ys : List ℕ) → Keys P m (xs ++ ys) → Keys P m xs
  keys_left P [] ys h = tt
  keys_left P (x ∷ xs) ys h = (h.0, keys_left P xs ys h.1)

  pub keys_right : (P : ℕ × ℕ → Type 0) (xs ys : List ℕ) → Keys P m (xs ++ ys) → Keys P m ys
  keys_right P [] ys h = h
  keys_right P (x ∷ xs) ys h = keys_right P xs ys h.1

  pub keys_all : (P : ℕ × ℕ → Type 0) → ((x : ℕ × ℕ) → P x) → (ks : List ℕ) → Keys P m ks
  keys_all P f [] = tt
  keys_all P f (k ∷ ks) = (λ s l. f (element m k s).key, keys_all P f ks)

  pub keys_both : (P Q R : ℕ × ℕ → Type 0) → ((x : ℕ × ℕ) → P x → Q x → R x) → (ks : List ℕ) → Keys P m ks → Keys Q m ks → Keys R m ks
  keys_both P Q R f [] h k = tt
  keys_both P Q R f (j ∷ ks) h k = (λ s l. f (element m j s).key (h.0 s l) (k.0 s l), keys_both P Q R f ks h.1 k.1)

  pub keys_swap : (R : ℕ × ℕ → ℕ × ℕ → Type 0) (xs ys : List ℕ) → Keys (λ y. Keys (λ x. R x y) m xs) m ys → Keys (λ x. Keys (λ y. R x y) m ys) m xs
  keys_swap R [] ys h = tt
  keys_swap R (k ∷ xs) ys h = (
    λ s l. keys_map m (λ y. Keys (λ x. R x y) m (k ∷ xs)) (R (element m k s).key) (λ y e. e.0 s l) ys h,
    keys_swap R xs ys (keys_map m (λ y. Keys (λ x. R x y) m (k ∷ xs)) (λ y. Keys (λ x. R x y) m xs) (λ y e. e.1) ys h),
  )

pub keys_append : (P : ℕ × ℕ → Type 0) (m xs ys : List ℕ) → Keys P m xs → Keys P m ys → Keys P m (xs ++ ys)
keys_append P m [] ys h k = k
keys_append P m (x ∷ xs) ys h k = (h.0, keys_append P m xs ys h.1 k)

-- The keys of leaves, each after all of some pairs.
pub keys_each_swap : (o : WordKind) (m : List ℕ) (ps : List Pair) (ks : List ℕ) → Each (λ k. Keys (λ y. o.before k y ≡ true) m ks) ps → Keys (λ y. Each (λ k. o.before k y ≡ true) ps) m ks
keys_each_swap o m ps [] h = tt
keys_each_swap o m ps (j ∷ ks) h = (λ s l. each_map o _ _ (λ k e. e.0 s l) ps h, keys_each_swap o m ps ks (each_map o _ _ (λ k e. e.1) ps h))
