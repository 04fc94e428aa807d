-- The words before i are those that the octets write.
use Rattle.std.proofs.Common.{◌≡◌, ℕ, ◌<◌, get_or}
use Rattle.std.specs.Int.Digits.{number_from_digits}
use Rattle.image.specs.Image.{octets_at}
use Rattle.image.proofs.read.Given as goal

abbrev pub invariant-loop-i : goal.invariant-loop-i
invariant-loop-i l = (k : ℕ) → k < l.i → get_or l.words k 0 ≡ number_from_digits 256 (octets_at l.octets k)
