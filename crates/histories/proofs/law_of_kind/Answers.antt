use Rattle.keys.proofs.WordLaws.{in_words_ordered}
use Rattle.histories.proofs.ListLaws.{law_by_rule_holds}
use Rattle.keys.specs.InWords.{in_words}
use Rattle.histories.proofs.law_of_kind.Goals as goal

pub returns : goal.returns
returns g c = let m = g.met.K.Key in law_by_rule_holds (in_words g.K.Key.kind) (in_words_ordered g.K.Key.kind m.ordered m.formed)
