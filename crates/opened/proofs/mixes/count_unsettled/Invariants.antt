use Rattle.std.proofs.Common.{◌≡◌, ◌+◌, ◌≤◌, drop}
use Rattle.opened.specs.Mixes.{unsettled}
use Rattle.opened.proofs.mixes.count_unsettled.Given as goal

-- What is counted and what is left comes to all.
abbrev pub invariant-loop-i : goal.invariant-loop-i
invariant-loop-i l = (l.count + unsettled (drop l.i l.live) (drop l.i l.firm) ≡ unsettled l.live l.firm) × (l.count ≤ l.i)
