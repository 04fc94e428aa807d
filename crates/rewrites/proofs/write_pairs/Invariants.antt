-- The lines that are left, after the steps counted, come to all of them.
use Rattle.std.proofs.Common.{◌≡◌, ◌+◌, ◌*◌, ◌^◌, ◌<◌, ◌≤◌, length}
use Rattle.std.specs.Prelude.{flat_map}
use Rattle.std.specs.Slice.Iter.{chunks_rest, chunks_size}
use Rattle.writes.specs.Writes.{perform, rows, lines_for, onward}
use Rattle.rewrites.specs.Rewrite.{pair_words}
use Rattle.rewrites.proofs.write_pairs.Given as goal

abbrev pub invariant-loop-two : goal.invariant-loop-two
invariant-loop-two g l =
    let rest = chunks_rest l.two-iterator in
    (goal.iterator-loop-two g).can_next l.two-iterator
    × (goal.iterator-loop-two g).is_finite l.two-iterator
    × (chunks_size l.two-iterator ≡ 2)
    × (l.steps + 4 * length rest + lines_for (4 * length rest) ≤ l.initial.steps + 4 * length l.pairs + lines_for (4 * length l.pairs))
    × (l.first + 4 * length l.pairs < 2 ^ 64 → l.initial.steps + 4 * length l.pairs + lines_for (4 * length l.pairs) < 2 ^ 64
    → (0 < length rest → l.at + 4 * length rest ≡ l.first + 4 * length l.pairs)
    × (onward l.steps (perform (g.M.Memory.meaning l.memory) (rows (lines_for (length (flat_map pair_words rest))) l.at (flat_map pair_words rest)))
    ≡ onward l.initial.steps (perform (g.M.Memory.meaning l.initial.memory) (rows (lines_for (length (flat_map pair_words l.pairs))) l.first (flat_map pair_words l.pairs)))))
