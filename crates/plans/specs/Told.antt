-- What a decision is told, and when one is lawful.
use Rattle.std.specs.Prelude.{◌≡◌, ℕ, ◌+◌, ◌<◌, ◌≤◌, true, Some, None, Option}
use Rattle.std.specs.Option.{option_map}
use Rattle.plans.specs.declared.deed.Call.{Call}
use Rattle.plans.specs.declared.deed.Call.TheVariants.{Put, Change, Remove}
use Rattle.plans.specs.declared.decision.Decision.{Decision}
use Rattle.plans.specs.declared.decision.Decision.TheVariants.{Split, Merge, Replace}
use Rattle.plans.specs.Deeds.{may_split}
use Rattle.plans.specs.Decisions.{decision}

-- The next leaf: its live pairs, and its count of elements.
pub record NextLeaf : Type 0 where
  pub pairs : ℕ
  pub count : ℕ

-- Which call it is, the pairs that its leaf will have, the next leaf if there is one, and how many leaves are free.
pub record Told : Type 0 where
  pub call : Call
  pub pairs : ℕ
  pub next : Option NextLeaf
  pub free : ℕ

abbrev pub Choice : Type 0
Choice = Told → Decision

-- The rule's choice.
abbrev pub by_rule : Choice
by_rule t = decision (may_split t.call) t.pairs (option_map (λ (next : NextLeaf). next.count) t.next)

-- The most pairs that a leaf to be rewritten can have after the call.
abbrev pub most_pairs : Call → ℕ
most_pairs Put = 17
most_pairs Change = 16
most_pairs Remove = 15

-- No more live pairs than elements.
abbrev pub Counted : Option NextLeaf → Type 0
Counted None = Unit {0}
Counted (Some next) = next.pairs ≤ next.count

-- What a decision can be told.
pub record Possible (t : Told) : Type 0 where
  pub some : 1 ≤ t.pairs
  pub most : t.pairs ≤ most_pairs t.call
  pub next : Counted t.next

-- A merge has a next leaf, and one leaf takes all.
abbrev pub Mergeable : ℕ → Option NextLeaf → Type 0
Mergeable n None = ⊥
Mergeable n (Some next) = n + next.pairs ≤ 16

-- A split only where the call may, with 1 to 16 pairs on each side; a merge of at most 16 with a next leaf; a replacement of at most 16.
abbrev pub LawfulFor : Told → Decision → Type 0
LawfulFor t (Split left) = (may_split t.call ≡ true) × (1 ≤ left) × (left ≤ 16) × (left < t.pairs) × (t.pairs ≤ left + 16)
LawfulFor t Merge = Mergeable t.pairs t.next
LawfulFor t Replace = t.pairs ≤ 16

abbrev pub Lawful : Choice → Type 0
Lawful choose = (t : Told) → Possible t → LawfulFor t (choose t)

abbrev pub DecisionLawful : Type 0
DecisionLawful = Lawful by_rule
