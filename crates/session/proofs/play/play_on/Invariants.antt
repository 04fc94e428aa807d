-- The acts so far are carried out and told, and the other places are as they were.
use Rattle.std.proofs.Common.{◌≡◌, length, take, drop}
use Rattle.keys.specs.InWords.{in_words}
use Rattle.session.specs.Grouping.{Indexed}
use Rattle.tree.specs.Sound.{Sound}
use Rattle.session.specs.Sessions.{CarriedAll, Same}
use Rattle.session.proofs.play.play_on.Given as goal

abbrev pub invariant-loop-i : goal.invariant-loop-i
invariant-loop-i g l =
    (length l.told ≡ length l.fn.told)
    × (drop l.i l.told ≡ drop l.i l.fn.told)
    × ((s : Indexed) → Same (g.M.Memory.meaning l.fn.logbook.memory) l.fn.logbook.state l.fn.logbook.taken s → Sound (in_words g.K.Key.kind) (g.M.Memory.meaning l.fn.logbook.memory).live l.fn.logbook.state
    → CarriedAll g.K.Key.kind l.choices s (take l.i l.acts) (take l.i l.told) (g.M.Memory.meaning l.logbook.memory) l.logbook.state l.logbook.taken)
