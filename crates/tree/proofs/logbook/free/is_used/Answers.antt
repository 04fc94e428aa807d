use Rattle.std.proofs.Common.{sym, ap, ◌∙◌, ◌||◌}
use Rattle.index.specs.Meaning.{listed}
use Rattle.index.specs.Nodes.{holds}
use Rattle.tree.proofs.UsedLaws.{used_is}
use Rattle.tree.proofs.logbook.free.is_used.Goals as goal

pub returns-then-contains : goal.returns-then-contains
returns-then-contains c =
    let own = sym c.contains.ensures.value ∙ c.if-contains.true in
    c.if-contains.true ∙ sym (used_is c.args.leaf c.args.also.now (listed c.args.index.now) ∙ ap (λ b. b || holds c.args.leaf (listed c.args.index.now)) own)

pub returns-else-contains : goal.returns-else-contains
returns-else-contains c =
    let none = sym c.contains.ensures.value ∙ c.if-contains.false in
    c.holds.ensures ∙ sym (used_is c.args.leaf c.args.also.now (listed c.args.index.now) ∙ ap (λ b. b || holds c.args.leaf (listed c.args.index.now)) none)
