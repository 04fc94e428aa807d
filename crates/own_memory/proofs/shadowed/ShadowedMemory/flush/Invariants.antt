use Rattle.std.proofs.Common.{◌≡◌}
use Rattle.own_memory.proofs.Copied.{Flushing}
use Rattle.own_memory.proofs.shadowed.ShadowedMemory.flush.Given as goal

abbrev pub invariant-loop-i : goal.invariant-loop-i
invariant-loop-i g l = Flushing l.initial.self.words l.line l.i l.self.words × (l.self.steps ≡ l.initial.self.steps)
