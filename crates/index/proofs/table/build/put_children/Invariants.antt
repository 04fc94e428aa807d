use Rattle.std.proofs.Common.{◌≡◌, length, take}
use Rattle.fixed_vec.specs.Items.{items}
use Rattle.index.specs.Nodes.{bounds}
use Rattle.index.specs.Shape.{numbered}
use Rattle.index.proofs.table.build.put_children.Given as goal

abbrev pub invariant-loop-i : goal.invariant-loop-i
invariant-loop-i l =
    record { so_far : items l.node.entries ≡ numbered l.first (bounds (take l.i l.entries)); count : length (items l.node.entries) ≡ l.i }
