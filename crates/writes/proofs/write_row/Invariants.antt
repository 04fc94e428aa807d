-- What is left of the row, after the steps counted, comes to the whole of it.
use Rattle.std.proofs.Common.{◌≡◌, ◌+◌, ◌/◌, ◌^◌, ◌<◌, ◌≤◌, [], ◌∷◌, length, drop}
use Rattle.writes.specs.Writes.{run, perform, line_ops, row, row_stores, onward}
use Rattle.writes.proofs.write_row.Given as goal

abbrev pub invariant-loop-i : goal.invariant-loop-i
invariant-loop-i g l =
    (l.steps ≤ l.initial.steps + l.i)
    × (l.first + length l.words < 2 ^ 64 → l.initial.steps + length l.words + 1 < 2 ^ 64
    → (l.steps ≡ l.initial.steps + l.i)
    × (onward l.steps (run (g.M.Memory.meaning l.memory) (line_ops (l.first / 8) (row_stores (l.first + l.i) (drop l.i l.words))))
    ≡ onward l.initial.steps (perform (g.M.Memory.meaning l.initial.memory) (row l.first l.words ∷ []))))
