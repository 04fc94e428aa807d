-- What a change of a leaf does to the numbers of all leaves and to the bounds between them, and in which nodes a leaf is.
use Rattle.std.proofs.Common.{◌≡◌, ℕ, zero, suc, ◌+◌, ◌<◌, true, false, ◌||◌, eqb, List, [], ◌∷◌, ◌++◌, map, length, take, drop, sym, refl, ap, ◌∙◌, arith}
use Rattle.std.specs.List.{list_any}
use Rattle.index.specs.declared.node.Entry.{Entry}
use Rattle.index.specs.declared.node.Node.{Node}
use Rattle.index.specs.Nodes.{bounds, holds, items, numbers, parted, renamed, joined}
use Rattle.index.specs.Search.{concat, front}
use Rattle.index.proofs.ChangeLaws.{bounds_renamed, length_parted}

front_bounds : (e : Entry) (es : List Entry) → 0 < length es → front (bounds (e ∷ es)) ≡ e.bound ∷ front (bounds es)
front_bounds e [] h = absurd (omega arith)
front_bounds e (d ∷ es) h = refl

module _ (left : ℕ) (b : ℕ × ℕ) (right : ℕ) where
  pub numbers_parted : (es : List Entry) (n : ℕ) → n < length es
      → numbers (parted es n left b right) ≡ take n (numbers es) ++ (left ∷ right ∷ drop (n + 1) (numbers es))
  numbers_parted [] n h = absurd (omega arith)
  numbers_parted (e ∷ es) zero h = refl
  numbers_parted (e ∷ es) (suc n) h =
      let z : suc n + 1 ≡ suc (n + 1) = omega arith in rw z (ap (λ ks. e.to ∷ ks) (numbers_parted es n (omega arith)))

  pub front_parted : (es : List Entry) (n : ℕ) → n < length es
      → front (bounds (parted es n left b right)) ≡ take n (front (bounds es)) ++ (b ∷ drop n (front (bounds es)))
  front_parted [] n h = absurd (omega arith)
  front_parted (e ∷ es) zero h = refl
  front_parted (e ∷ es) (suc n) h =
      let new = front_bounds e (parted es n left b right) (omega (arith, length_parted es n left b right (omega arith))) in
      let old = front_bounds e es (omega arith) in
      rw (new, old) (ap (λ bs. e.bound ∷ bs) (front_parted es n (omega arith)))

module _ (leaf : ℕ) where
  pub numbers_renamed : (es : List Entry) (n : ℕ) → n < length es → numbers (renamed es n leaf) ≡ take n (numbers es) ++ (leaf ∷ drop (n + 1) (numbers es))
  numbers_renamed [] n h = absurd (omega arith)
  numbers_renamed (e ∷ es) zero h = refl
  numbers_renamed (e ∷ es) (suc n) h =
      let z : suc n + 1 ≡ suc (n + 1) = omega arith in rw z (ap (λ ks. e.to ∷ ks) (numbers_renamed es n (omega arith)))

  pub front_renamed : (es : List Entry) (n : ℕ) → front (bounds (renamed es n leaf)) ≡ front (bounds es)
  front_renamed es n = ap front (bounds_renamed es n leaf)

  pub numbers_joined : (es : List Entry) (n : ℕ) → n + 1 < length es → numbers (joined es n leaf) ≡ take n (numbers es) ++ (leaf ∷ drop (n + 2) (numbers es))
  numbers_joined [] n h = absurd (omega arith)
  numbers_joined (e ∷ es) zero h = numbers_renamed es 0 (omega arith)
  numbers_joined (e ∷ es) (suc n) h =
      let z : suc n + 2 ≡ suc (n + 2) = omega arith in rw z (ap (λ ks. e.to ∷ ks) (numbers_joined es n (omega arith)))

  length_joined : (es : List Entry) (n : ℕ) → n + 1 < length es → 0 < length (joined es n leaf)
  length_joined [] n h = absurd (omega arith)
  length_joined (e ∷ []) n h = absurd (omega arith)
  length_joined (e ∷ d ∷ es) zero h = omega arith
  length_joined (e ∷ d ∷ es) (suc n) h = omega arith

  pub front_joined : (es : List Entry) (n : ℕ) → n + 1 < length es → front (bounds (joined es n leaf)) ≡ take n (front (bounds es)) ++ drop (n + 1) (front (bounds es))
  front_joined [] n h = absurd (omega arith)
  front_joined (e ∷ es) zero h = let old = front_bounds e es (omega arith) in rw old (front_renamed es 0)
  front_joined (e ∷ es) (suc n) h =
      let new = front_bounds e (joined es n leaf) (length_joined es n (omega arith)) in
      let old = front_bounds e es (omega arith) in
      let z : suc n + 1 ≡ suc (n + 1) = omega arith in
      rw (new, old, z) (ap (λ bs. e.bound ∷ bs) (front_joined es n (omega arith)))

-- A leaf is in a list of two parts where it is in one of them.
holds_append : (leaf : ℕ) (es fs : List Entry) → holds leaf (es ++ fs) ≡ (holds leaf es || holds leaf fs)
holds_append leaf [] fs = refl
holds_append leaf (e ∷ es) fs =
    elim (eqb e.to leaf) as (λ b. (b || holds leaf (es ++ fs)) ≡ ((b || holds leaf es) || holds leaf fs)) [ true ↦ refl | false ↦ holds_append leaf es fs ]

-- A leaf is in the list of all where it is in one of the nodes.
pub holds_grouped : (leaf : ℕ) (nodes : List Node) → list_any (λ (n : Node). holds leaf (items n)) nodes ≡ holds leaf (concat (map items nodes))
holds_grouped leaf [] = refl
holds_grouped leaf (n ∷ nodes) =
    ap (λ b. holds leaf (items n) || b) (holds_grouped leaf nodes) ∙ sym (holds_append leaf (items n) (concat (map items nodes)))
