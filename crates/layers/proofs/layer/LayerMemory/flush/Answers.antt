use Rattle.std.proofs.Common.{sym, ap, ◌∙◌, rules}
use Rattle.layers.specs.Layers.{layered}
use Rattle.layers.proofs.Views.{flush_found, after_flush_found}
use Rattle.layers.proofs.layer.LayerMemory.flush.Goals as goal

pub returns-in_err-line-clause-answer : goal.returns-in_err-line-clause-answer
returns-in_err-line-clause-answer g c =
    let outside = flush_found (g.met.N.Renumber.sound c.args.self.now.numbering) (g.M.Memory.laws c.args.self.now.below) c.args.line (sym c.in_err-line.ensures.ok_part ∙ c.line_below.ensures) in
    search rules

pub returns-in_err-line-clause-after : goal.returns-in_err-line-clause-after
returns-in_err-line-clause-after g c =
    after_flush_found (g.met.N.Renumber.sound c.args.self.now.numbering) (g.M.Memory.laws c.args.self.now.below) c.args.line (sym c.in_err-line.ensures.ok_part ∙ c.line_below.ensures)

pub returns-clause-answer : goal.returns-clause-answer
returns-clause-answer g c =
    c.flush.ensures.answer ∙ flush_found (g.met.N.Renumber.sound c.args.self.now.numbering) (g.M.Memory.laws c.args.self.now.below) c.args.line (sym c.in_ok-line.ensures.ok_part ∙ c.line_below.ensures)

pub returns-clause-after : goal.returns-clause-after
returns-clause-after g c =
    ap (layered (g.N.Renumber.numbering c.args.self.now.numbering)) c.flush.ensures.after
    ∙ after_flush_found (g.met.N.Renumber.sound c.args.self.now.numbering) (g.M.Memory.laws c.args.self.now.below) c.args.line (sym c.in_ok-line.ensures.ok_part ∙ c.line_below.ensures)
