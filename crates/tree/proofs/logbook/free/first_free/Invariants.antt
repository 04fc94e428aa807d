use Rattle.std.proofs.Common.{◌≡◌, ◌++◌, not}
use Rattle.std.specs.List.{find}
use Rattle.index.specs.Meaning.{listed}
use Rattle.index.specs.Nodes.{numbers}
use Rattle.leaves.specs.Opening.{member}
use Rattle.plans.specs.Free.{leaves_after}
use Rattle.tree.proofs.logbook.free.first_free.Given as goal

abbrev pub invariant-loop-below : goal.invariant-loop-below
invariant-loop-below l =
    let used = l.also ++ numbers (listed l.index) in
    find (λ k. not (member k used)) (leaves_after l.fn.low l.fn.high) ≡ find (λ k. not (member k used)) (leaves_after l.below l.high)
