-- What is left of the elements, after the steps counted, comes to all of them.
use Rattle.std.proofs.Common.{◌≡◌, ◌+◌, ◌*◌, ◌^◌, ◌<◌, ◌≤◌, length, drop}
use Rattle.writes.specs.Writes.{onward, perform}
use Rattle.appends.specs.Append.{slot_lines}
use Rattle.appends.proofs.write_elements.Given as goal

abbrev pub invariant-loop-i : goal.invariant-loop-i
invariant-loop-i g l =
    (l.steps ≤ l.initial.steps + 5 * l.i)
    × (l.initial.steps + 5 * length l.elements < 2 ^ 64
    → onward l.steps (perform (g.M.Memory.meaning l.memory) (slot_lines l.leaf (l.slot + l.i) l.key (drop l.i l.elements)))
    ≡ onward l.initial.steps (perform (g.M.Memory.meaning l.initial.memory) (slot_lines l.leaf l.slot l.key l.elements)))
