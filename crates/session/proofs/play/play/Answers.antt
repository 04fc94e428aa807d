use Rattle.std.proofs.Common.{sym, ap, ◌∙◌}
use Rattle.keys.specs.InWords.{in_words}
use Rattle.keys.proofs.WordLaws.{in_words_ordered}
use Rattle.session.specs.Grouping.{formatted_index}
use Rattle.session.proofs.PlayLaws.{begins, promised}
use Rattle.session.proofs.play.play.Goals as goal

pub returns-clause-session : goal.returns-clause-session
returns-clause-session g c ok =
    let o = in_words g.K.Key.kind in
    let laws = in_words_ordered g.K.Key.kind g.met.K.Key.ordered g.met.K.Key.formed in
    let m = g.M.Memory.meaning c.args.memory in
    let new = c.new-logbook.ensures in
    let made = c.format-formatted.ensures in
    let begun = begins o m c.args.leaves _ _ _ c.format-formatted.result ok (rw (new.memory, new.state) at made.answer) (rw (new.memory, new.state) at made.memory) (rw (new.memory, new.state) at made.state) (rw new.taken at made.taken) in
    let all = c.play_on.ensures.played (formatted_index o m c.args.leaves) begun (rw ok at made.sound) in
    promised g.K.Key.kind laws m c.args.leaves c.args.choices.now _ _ _ _ _ _ (sym (rw (new.memory, new.state) at made.answer) ∙ ok) all (ap (λ w. g.M.Memory.meaning w) (sym c.release-2.ensures))
