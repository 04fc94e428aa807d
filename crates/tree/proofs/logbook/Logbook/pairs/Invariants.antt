-- The pairs counted, and those of the leaves that are left, are all.
use Rattle.std.proofs.Common.{◌≡◌, ◌+◌, ◌*◌, ◌≤◌, length, Ok}
use Rattle.keys.specs.InWords.{in_words}
use Rattle.books.specs.Questions.{pairs_in_all}
use Rattle.tree.specs.Sound.{Sound}
use Rattle.tree.specs.Telling.{pairs_answer}
use Rattle.tree.specs.Walk.{onwards}
use Rattle.tree.proofs.WalkLaws.{Standing}
use Rattle.tree.proofs.logbook.Logbook.pairs.Given as goal

abbrev pub invariant-loop-place : goal.invariant-loop-place
invariant-loop-place g l =
    let o = in_words g.K.Key.kind in
    let m = (g.M.Memory.meaning l.fn.self.memory).live in
    let s = l.fn.self.state in
    (g.M.Memory.meaning l.self.memory ≡ g.M.Memory.meaning l.fn.self.memory)
    × (l.self.state ≡ s)
    × (l.self.taken ≡ l.fn.self.taken)
    × Standing s l.place
    × (l.all + 16 * length (onwards s l.place) ≤ 1024)
    × (Sound o m s → Ok (l.all + pairs_in_all o m (onwards s l.place)) ≡ pairs_answer o m s)

abbrev pub decreases-loop-place : goal.decreases-loop-place
decreases-loop-place g l = length (onwards l.fn.self.state l.place)
