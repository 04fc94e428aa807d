-- A node as a caller is told it.
use Rattle.std.specs.Prelude.{ℕ, ◌-◌, Bool, cond, List, length, take, ◌==◌, nat_le}
use Rattle.fixed_vec.specs.Items.{items}
use Rattle.index.specs.declared.node.Entry.{Entry}
use Rattle.index.specs.declared.record.Holds.{Holds}
use Rattle.index.specs.declared.record.Holds.TheVariants.{Nothing, Leaves, Children}
use Rattle.index.specs.declared.record.NodeRecord.{NodeRecord}
use Rattle.index.specs.Nodes.{bounds, numbers}
use Rattle.index.specs.Shape.{lowest, table}

-- What a node of n entries holds, on the lowest level or above.
abbrev pub holding : Bool → ℕ → Holds
holding low n = cond (n == 0) Nothing (cond low Leaves Children)

-- What the node holds, how many, their numbers, and the bounds between them.
pub record Telling : Type 0 where
  pub kept : Holds
  pub many : ℕ
  pub names : List ℕ
  pub between : List (ℕ × ℕ)

abbrev pub told : NodeRecord → Telling
told s =
    record { kept = s.holds; many = length (items s.numbers); names = items s.numbers; between = items s.bounds }

abbrev pub telling : Bool → List Entry → Telling
telling low es =
    record { kept = holding low (length es); many = length es; names = numbers es; between = take (length es - 1) (bounds es) }

abbrev pub node_told : List (List Entry) → ℕ → Telling
node_told gs i = telling (nat_le (lowest (length gs)) i) (table gs i)
