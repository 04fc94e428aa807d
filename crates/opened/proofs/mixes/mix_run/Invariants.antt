use Rattle.std.proofs.Common.{◌≡◌, ◌++◌, drop}
use Rattle.opened.specs.Mixes.{mix_of}
use Rattle.opened.proofs.mixes.mix_run.Given as goal

-- The choices made and those that are left come to all.
abbrev pub invariant-loop-i : goal.invariant-loop-i
invariant-loop-i l = l.run.items ++ mix_of l.digits (drop l.i l.live) (drop l.i l.firm) ≡ mix_of l.mix l.live l.firm
