-- The octets before word i are the image of the words before it, each of which fits, and the memory is as it was.
use Rattle.std.proofs.Common.{◌≡◌, ◌*◌, ◌^◌, ◌++◌, take, drop}
use Rattle.std.specs.Int.Digits.{AllBelowBase}
use Rattle.image.specs.Image.{image}
use Rattle.image.proofs.write.Given as goal

abbrev pub invariant-loop-i : goal.invariant-loop-i
invariant-loop-i g l =
    (g.M.Memory.meaning l.memory ≡ g.M.Memory.meaning l.initial.memory)
    × (l.octets ≡ image (take l.i (g.M.Memory.meaning l.initial.memory).live) ++ drop (8 * l.i) l.initial.octets)
    × AllBelowBase (2 ^ 64) (take l.i (g.M.Memory.meaning l.initial.memory).live)
