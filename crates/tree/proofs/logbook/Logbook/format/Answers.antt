use Rattle.std.proofs.Common.{arith}
use Rattle.keys.specs.InWords.{in_words}
use Rattle.keys.proofs.WordLaws.{in_words_ordered}
use Rattle.tree.proofs.FormatLaws.{cut_formatted, ran, sound_formatted}
use Rattle.tree.proofs.logbook.Logbook.format.Goals as goal

pub returns-in-Ok-clause-sound : goal.returns-in-Ok-clause-sound
returns-in-Ok-clause-sound g c =
    let o = in_words g.K.Key.kind in
    let laws = in_words_ordered g.K.Key.kind g.met.K.Key.ordered g.met.K.Key.formed in
    let m = g.M.Memory.meaning c.args.self.now.memory in
    sound_formatted o laws c.args.self.now.state m c.args.leaves _ _ c.make_alone.new.state c.in_ok-can_format.ensures (ran o m _ c.args.leaves _ _ _ c.code.ensures (c.in-Ok.ensures (omega arith))) c.make_alone.ensures

pub returns-in-Ok-clause-cut : goal.returns-in-Ok-clause-cut
returns-in-Ok-clause-cut g c =
    let o = in_words g.K.Key.kind in
    let laws = in_words_ordered g.K.Key.kind g.met.K.Key.ordered g.met.K.Key.formed in
    let m = g.M.Memory.meaning c.args.self.now.memory in
    cut_formatted o laws c.args.self.now.state m c.args.leaves _ _ _ c.in_ok-can_format.ensures (ran o m _ c.args.leaves _ _ _ c.code.ensures (c.in-Ok.ensures (omega arith)))

pub returns-in-Err-clause-cut : goal.returns-in-Err-clause-cut
returns-in-Err-clause-cut g c =
    let o = in_words g.K.Key.kind in
    let laws = in_words_ordered g.K.Key.kind g.met.K.Key.ordered g.met.K.Key.formed in
    let m = g.M.Memory.meaning c.args.self.now.memory in
    cut_formatted o laws c.args.self.now.state m c.args.leaves _ _ _ c.in_ok-can_format.ensures (ran o m _ c.args.leaves _ _ _ c.code.ensures (c.in-Err.ensures (omega arith)))
