use Rattle.fixed_vec.specs.Items.{items}
use Rattle.std.proofs.Common.{◌≡◌, take}
use Rattle.keys.specs.InWords.{in_words}
use Rattle.tree.specs.Shape.{paired, tops}
use Rattle.tree.proofs.logbook.open.opened.Given as goal

abbrev pub invariant-loop-leaf : goal.invariant-loop-leaf
invariant-loop-leaf g l =
    let m = (g.M.Memory.meaning l.fn.memory).live in
    (g.M.Memory.meaning l.memory ≡ g.M.Memory.meaning l.fn.memory)
    × (items l.entries ≡ paired (take l.leaf-index l.leaves) (take l.leaf-index (tops (in_words g.K.Key.kind) m l.leaves)))
