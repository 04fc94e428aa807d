-- The leaves that are left tell what all of them tell.
use Rattle.std.proofs.Common.{◌≡◌, length}
use Rattle.keys.specs.InWords.{in_words}
use Rattle.books.specs.Questions.{first_of}
use Rattle.tree.specs.Sound.{Sound}
use Rattle.tree.specs.Telling.{next_answer, paired_or}
use Rattle.tree.specs.Walk.{onwards}
use Rattle.tree.proofs.WalkLaws.{Standing}
use Rattle.tree.proofs.logbook.Logbook.next.Given as goal

abbrev pub invariant-loop-place : goal.invariant-loop-place
invariant-loop-place g l =
    let o = in_words g.K.Key.kind in
    let m = (g.M.Memory.meaning l.fn.self.memory).live in
    let s = l.fn.self.state in
    (g.M.Memory.meaning l.self.memory ≡ g.M.Memory.meaning l.fn.self.memory)
    × (l.self.state ≡ s)
    × (l.self.taken ≡ l.fn.self.taken)
    × Standing s l.place
    × (Sound o m s → paired_or (first_of o m l.words (onwards s l.place)) ≡ next_answer o m s l.words)

abbrev pub decreases-loop-place : goal.decreases-loop-place
decreases-loop-place g l = length (onwards l.fn.self.state l.place)
