use Rattle.std.proofs.Common.{sym, ap, ◌∙◌, rules}
use Rattle.layers.specs.Layers.{layered}
use Rattle.layers.proofs.Views.{store_found, after_store_found}
use Rattle.layers.proofs.layer.LayerMemory.store.Goals as goal

pub returns-in_err-at-clause-answer : goal.returns-in_err-at-clause-answer
returns-in_err-at-clause-answer g c =
    let outside = store_found (g.met.N.Renumber.sound c.args.self.now.numbering) (g.M.Memory.laws c.args.self.now.below) c.args.at (sym c.in_err-at.ensures.ok_part ∙ c.word_below.ensures) in
    search rules

pub returns-in_err-at-clause-after : goal.returns-in_err-at-clause-after
returns-in_err-at-clause-after g c =
    after_store_found (g.met.N.Renumber.sound c.args.self.now.numbering) (g.M.Memory.laws c.args.self.now.below) c.args.at c.args.word (sym c.in_err-at.ensures.ok_part ∙ c.word_below.ensures)

pub returns-clause-answer : goal.returns-clause-answer
returns-clause-answer g c =
    c.store.ensures.answer ∙ store_found (g.met.N.Renumber.sound c.args.self.now.numbering) (g.M.Memory.laws c.args.self.now.below) c.args.at (sym c.in_ok-at.ensures.ok_part ∙ c.word_below.ensures)

pub returns-clause-after : goal.returns-clause-after
returns-clause-after g c =
    ap (layered (g.N.Renumber.numbering c.args.self.now.numbering)) c.store.ensures.after
    ∙ after_store_found (g.met.N.Renumber.sound c.args.self.now.numbering) (g.M.Memory.laws c.args.self.now.below) c.args.at c.args.word (sym c.in_ok-at.ensures.ok_part ∙ c.word_below.ensures)
