use Rattle.std.proofs.Common.{sym, ap, ◌∙◌}
use Rattle.keys.specs.InWords.{in_words}
use Rattle.keys.proofs.WordLaws.{in_words_ordered}
use Rattle.leaves.specs.Pairs.{lookup, pairs}
use Rattle.tree.specs.Telling.{find_answer, leaf_for_key}
use Rattle.tree.proofs.LocatedLaws.{found_here, found_or, never_refused, rising}
use Rattle.tree.proofs.logbook.Logbook.find.Goals as goal

pub returns-in_err-find_in-clause-answer : goal.returns-in_err-find_in-clause-answer
returns-in_err-find_in-clause-answer g c h =
    let book = c.args.self.now in
    let o = in_words g.K.Key.kind in
    let laws = in_words_ordered g.K.Key.kind g.met.K.Key.ordered g.met.K.Key.formed in
    let m = (g.M.Memory.meaning book.memory).live in
    let at = c.in_ok-leaf.ensures (rising o m book.state h) ∙ ap (leaf_for_key o book.state) (sym c.pack-words.ensures) in
    never_refused o laws m book.state c.pack-words.result c.in_ok-leaf.leaf h at (λ n. lookup c.pack-words.result (pairs o m c.in_ok-leaf.leaf n)) c.in_err-find_in.field-0.0 c.in_err-find_in.ensures.value

pub returns-clause-answer : goal.returns-clause-answer
returns-clause-answer g c h =
    let book = c.args.self.now in
    let o = in_words g.K.Key.kind in
    let laws = in_words_ordered g.K.Key.kind g.met.K.Key.ordered g.met.K.Key.formed in
    let m = (g.M.Memory.meaning book.memory).live in
    let at = c.in_ok-leaf.ensures (rising o m book.state h) ∙ ap (leaf_for_key o book.state) (sym c.pack-words.ensures) in
    c.ok_or.ensures.value ∙ found_or c.in_ok-find_in.field-0
    ∙ found_here o laws m book.state c.pack-words.result c.in_ok-leaf.leaf h at c.in_ok-find_in.field-0 c.in_ok-find_in.ensures.value
    ∙ ap (find_answer o m book.state) c.pack-words.ensures
