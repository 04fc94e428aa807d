use Rattle.std.proofs.Common.{◌≡◌, take}
use Rattle.fixed_vec.specs.Items.{items}
use Rattle.index.specs.Nodes.{bounds, numbers}
use Rattle.index.proofs.table.show.show.Given as goal

abbrev pub invariant-loop-e : goal.invariant-loop-e
invariant-loop-e l =
    record {
      holds : l.out.holds ≡ l.initial.out.holds;
      names : items l.out.numbers ≡ numbers (take l.e-index l.front);
      between : items l.out.bounds ≡ bounds (take l.e-index l.front);
    }
