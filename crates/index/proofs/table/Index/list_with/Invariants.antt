use Rattle.std.proofs.Common.{◌≡◌, ◌++◌, drop, set}
use Rattle.index.specs.Nodes.{items, chained}
use Rattle.index.specs.Search.{concat}
use Rattle.index.specs.Meaning.{grouped}
use Rattle.index.proofs.table.Index.list_with.Given as goal

abbrev pub invariant-loop-g : goal.invariant-loop-g
invariant-loop-g l =
    let gs = set (grouped l.self) l.at (items l.other) in
    chained l.all ++ concat (drop l.g gs) ≡ concat gs
