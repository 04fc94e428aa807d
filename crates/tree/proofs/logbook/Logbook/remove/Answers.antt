use Rattle.std.proofs.Common.{ap, ◌∙◌}
use Rattle.keys.specs.InWords.{in_words}
use Rattle.keys.proofs.WordLaws.{in_words_ordered, valid_of_keys}
use Rattle.plans.specs.declared.deed.Deed.TheVariants.{Remove}
use Rattle.tree.proofs.EndingLaws.{sound_after}
use Rattle.tree.proofs.logbook.Logbook.remove.Goals as goal

pub returns-clause-sound : goal.returns-clause-sound
returns-clause-sound g c h =
    let o = in_words g.K.Key.kind in
    let laws = in_words_ordered g.K.Key.kind g.met.K.Key.ordered g.met.K.Key.formed in
    let valid = ap (λ w. o.valid w) c.pack-words.ensures ∙ valid_of_keys g.K.Key.kind g.met.K.Key.formed c.args.key.now in
    sound_after o laws (g.M.Memory.meaning c.args.self.now.memory) c.args.self.now.state c.args.self.now.taken (Remove c.pack-words.result) h valid _ _ _ _ (c.turn.ensures.ending h)

pub returns-in_err-done-clause-sound : goal.returns-in_err-done-clause-sound
returns-in_err-done-clause-sound g c h =
    let o = in_words g.K.Key.kind in
    let laws = in_words_ordered g.K.Key.kind g.met.K.Key.ordered g.met.K.Key.formed in
    let valid = ap (λ w. o.valid w) c.pack-words.ensures ∙ valid_of_keys g.K.Key.kind g.met.K.Key.formed c.args.key.now in
    sound_after o laws (g.M.Memory.meaning c.args.self.now.memory) c.args.self.now.state c.args.self.now.taken (Remove c.pack-words.result) h valid _ _ _ _ (c.turn.ensures.ending h)
