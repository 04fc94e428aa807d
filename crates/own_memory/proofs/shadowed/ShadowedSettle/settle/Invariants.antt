use Rattle.own_memory.proofs.Copied.{Settling}
use Rattle.own_memory.proofs.shadowed.ShadowedSettle.settle.Given as goal

abbrev pub invariant-loop-i : goal.invariant-loop-i
invariant-loop-i g l = Settling l.initial.self.words l.choice l.i l.self.words
