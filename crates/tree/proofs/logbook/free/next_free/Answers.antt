use Rattle.std.proofs.Common.{◌++◌, sym, ◌∙◌}
use Rattle.index.specs.Meaning.{listed}
use Rattle.index.specs.Nodes.{numbers}
use Rattle.plans.proofs.FreeLaws.{free_round, free_up}
use Rattle.tree.proofs.logbook.free.next_free.Goals as goal

pub returns-in-None : goal.returns-in-None
returns-in-None c =
    let up = rw c.unwrap_or-last.ensures at c.first_free.ensures in
    let round = rw (c.min.ensures, c.unwrap_or-last.ensures) at c.first_free-in-None.ensures in
    round ∙ sym (free_round c.args.leaves (c.args.also.now ++ numbers (listed c.args.index.now)) c.args.last (sym up ∙ c.in-None.is))

pub returns-in_default : goal.returns-in_default
returns-in_default c =
    let up = rw c.unwrap_or-last.ensures at c.first_free.ensures in
    up ∙ sym (free_up c.args.leaves (c.args.also.now ++ numbers (listed c.args.index.now)) c.args.last (λ none. c.in_default.not-None (up ∙ none)))
