use Rattle.std.proofs.Common.{◌≡◌, take}
use Rattle.keys.specs.InWords.{in_words}
use Rattle.leaves.specs.Ascent.{all_pairs}
use Rattle.opened.proofs.book.pairs_of_leaves.Given as goal

-- The pairs of the leaves so far.
abbrev pub invariant-loop-leaf : goal.invariant-loop-leaf
invariant-loop-leaf g l =
    (g.M.Memory.meaning l.memory ≡ g.M.Memory.meaning l.fn.memory)
    × (l.pairs.items ≡ all_pairs (in_words g.K.Key.kind) (g.M.Memory.meaning l.fn.memory).live (take l.leaf-index l.leaves))
