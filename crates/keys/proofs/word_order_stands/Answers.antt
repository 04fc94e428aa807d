use Rattle.keys.proofs.WordLaws.{in_words_ordered}
use Rattle.keys.proofs.word_order_stands.Goals as goal

pub returns : goal.returns
returns g c = let m = g.met.K.Key in in_words_ordered g.K.Key.kind m.ordered m.formed
