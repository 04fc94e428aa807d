use Rattle.std.proofs.Common.{ℕ, ◌≤◌, ◌<◌}
use Rattle.script.specs.Forms.{IsNumber, word}
use Rattle.script.proofs.parse.mix.Given as goal

-- The words looked at so far are numbers.
abbrev pub invariant-loop-i : goal.invariant-loop-i
invariant-loop-i l = (i : ℕ) → 3 ≤ i → i < l.i → IsNumber (word l.words i)
