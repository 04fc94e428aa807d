-- How a leaf is rewritten.
use Rattle.std.specs.Prelude.{◌≡◌, ℕ, ◌-◌, ◌/◌, ◌<◌, ◌≤◌, Bool, true, false, cond, ◌&&◌, Some, None, Option, nat_le, nat_lt}
use Rattle.plans.specs.declared.decision.Decision.{Decision}
use Rattle.plans.specs.declared.decision.Decision.TheVariants.{Split, Merge, Replace}

-- There is a next leaf, and it counts at most 8 elements.
abbrev pub few : Option ℕ → Bool
few None = false
few (Some count) = nat_le count 8

-- The rule: above 8 pairs a split in halves, where the call may split; up to 8 a merge with a next leaf of few; else a replacement.
abbrev pub decision : Bool → ℕ → Option ℕ → Decision
decision may n next = cond (may && nat_lt 8 n) (Split (n / 2)) (cond (nat_le n 8 && few next) Merge Replace)

-- Of 9 to 17 pairs 4 to 8 go to the left leaf and 5 to 9 to the right one.
pub record HalfShares (n : ℕ) (next : Option ℕ) : Type 0 where
  pub split : decision true n next ≡ Split (n / 2)
  pub left_least : 4 ≤ n / 2
  pub left_most : n / 2 ≤ 8
  pub right_least : 5 ≤ n - n / 2
  pub right_most : n - n / 2 ≤ 9

abbrev pub SplitHalves : Type 0
SplitHalves = (n : ℕ) (next : Option ℕ) → 8 < n → n ≤ 17 → HalfShares n next

-- Of 17 pairs 8 go to the left leaf, so 9 to the right one.
abbrev pub SplitOfSeventeen : Type 0
SplitOfSeventeen = (next : Option ℕ) → decision true 17 next ≡ Split 8

-- A call that may not split never does.
abbrev pub NeverSplit : Type 0
NeverSplit = (n left : ℕ) (next : Option ℕ) → decision false n next ≡ Split left → ⊥
