use Rattle.std.proofs.Common.{◌≡◌, ℕ, ◌%◌, ◌<◌, length}
use Rattle.std.specs.Prelude.{slice_index_or}
use Rattle.desk.proofs.runs.choice_run.Given as goal

-- The words made so far are the given ones repeated.
abbrev pub invariant-loop-i : goal.invariant-loop-i
invariant-loop-i l =
    (length l.run.items ≡ l.length) × ((k : ℕ) → k < l.i → slice_index_or l.run.items k 0 ≡ slice_index_or l.words (k % l.period) 0)
