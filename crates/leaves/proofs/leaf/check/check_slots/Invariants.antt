use Rattle.fixed_vec.specs.Items.{items}
use Rattle.keys.specs.InWords.{in_words}
use Rattle.std.proofs.Common.{◌≡◌, ◌-◌, [], map}
use Rattle.std.specs.List.{range_with_len}
use Rattle.leaves.specs.Layout.{element, elements}
use Rattle.leaves.specs.Pairs.{folded}
use Rattle.leaves.specs.Opening.{first_bad_of}
use Rattle.leaves.proofs.leaf.check.check_slots.Given as goal

abbrev pub invariant-loop-slot : goal.invariant-loop-slot
invariant-loop-slot g l =
    let o = in_words g.K.Key.kind in
    let m = (g.M.Memory.meaning l.initial.memory).live in
    (g.M.Memory.meaning l.memory ≡ g.M.Memory.meaning l.initial.memory)
    × (items l.read ≡ elements m l.leaf l.slot)
    × (first_bad_of o l.bound (folded o [] (elements m l.leaf l.slot)) l.slot (map (element m l.leaf) (range_with_len l.slot (l.count - l.slot))) ≡ first_bad_of o l.bound [] 0 (elements m l.leaf l.count))
