use Rattle.std.proofs.Common.{sym, ◌∙◌, rules}
use Rattle.layers.proofs.Views.{read_found}
use Rattle.layers.proofs.layer.LayerMemory.read.Goals as goal

pub returns-in_err-at-clause-answer : goal.returns-in_err-at-clause-answer
returns-in_err-at-clause-answer g c =
    let outside = read_found (g.met.N.Renumber.sound c.args.self.now.numbering) (g.M.Memory.laws c.args.self.now.below) c.args.at (sym c.in_err-at.ensures.ok_part ∙ c.word_below.ensures) in
    search rules

pub returns-clause-answer : goal.returns-clause-answer
returns-clause-answer g c =
    c.read.ensures.answer ∙ read_found (g.met.N.Renumber.sound c.args.self.now.numbering) (g.M.Memory.laws c.args.self.now.below) c.args.at (sym c.in_ok-at.ensures.ok_part ∙ c.word_below.ensures)
