use Rattle.keys.specs.InWords.{in_words}
use Rattle.std.proofs.Common.{◌≡◌, ◌+◌, ◌-◌, ◌≤◌, [], length, None}
use Rattle.leaves.specs.Opening.{leaves_of, walk}
use Rattle.leaves.proofs.open.walk.walk.Given as goal

abbrev pub invariant-loop-link : goal.invariant-loop-link
invariant-loop-link g l =
    let o = in_words g.K.Key.kind in
    let m = (g.M.Memory.meaning l.initial.memory).live in
    (g.M.Memory.meaning l.memory ≡ g.M.Memory.meaning l.initial.memory)
    × (length (leaves_of l.chain) + 1 ≤ l.leaves)
    × (walk o m (l.leaves - 1 - length (leaves_of l.chain)) (leaves_of l.chain) l.bound l.from l.link ≡ walk o m (l.leaves - 1) [] None 0 l.first)

abbrev pub decreases-loop-link : goal.decreases-loop-link
decreases-loop-link g l = l.leaves - length (leaves_of l.chain)
