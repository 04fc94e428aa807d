use Rattle.std.proofs.Common.{◌≡◌, ◌-◌, true, false, length, take, ◌∙◌, rules}
use Rattle.std.proofs.lemmas.Iterator.{IsFirst-from_position, YieldsList-from_slice}
use borrow.Author.Tests.{tests}
use Rattle.keys.specs.InWords.{in_words}
use Rattle.index.proofs.NodeLaws.{search_first}
use Rattle.index.proofs.node.search.search.Goals as goal

pub returns-clause-place : goal.returns-clause-place
returns-clause-place g c =
    let o = in_words g.K.Key.kind in
    let es = c.args.entries.now in
    c.unwrap_or.ensures ∙ search_first o (g.K.Key.kind.form c.args.key.now) es c.position.result c.requires (IsFirst-from_position _ _ _ (λ e. o.before e.bound (g.K.Key.kind.form c.args.key.now) ≡ false) (λ e. o.before e.bound (g.K.Key.kind.form c.args.key.now) ≡ true) c.position.ensures.ran (YieldsList-from_slice (take (length es - 1) es) cc) (λ x q k. search (rules, tests)) (λ x q k. search (rules, tests)))
