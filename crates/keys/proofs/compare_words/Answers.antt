use Rattle.std.proofs.Common.{rules}
use Rattle.keys.proofs.WordLaws.{in_words_ordered}
use Rattle.keys.proofs.compare_words.Goals as goal

pub returns : goal.returns
returns g c =
    let laws = in_words_ordered g.K.Key.kind g.met.K.Key.ordered g.met.K.Key.formed in
    let same = laws.connected c.args.a c.args.b in
    search rules
