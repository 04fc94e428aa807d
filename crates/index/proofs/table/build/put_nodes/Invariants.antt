use Rattle.std.proofs.Common.{◌≡◌, ℕ, ◌<◌, [], map, length, get_or}
use Rattle.index.specs.Nodes.{items}
use Rattle.index.specs.Shape.{singles, table}
use Rattle.index.proofs.table.build.put_nodes.Given as goal

abbrev pub invariant-loop-i : goal.invariant-loop-i
invariant-loop-i l =
    record { long : length l.nodes ≡ 91; each : (k : ℕ) → k < l.i → get_or (map items l.nodes) k [] ≡ table (singles l.entries) k }
