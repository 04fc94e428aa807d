use Rattle.layers.proofs.Mixes.{layered_free}
use Rattle.layers.proofs.Views.{after_settle_layered}
use Rattle.layers.proofs.layer.LayerSettle.settle.Goals as goal

pub returns-clause-after : goal.returns-clause-after
returns-clause-after g c =
    let s = c.args.self.now in
    after_settle_layered (g.met.N.Renumber.sound s.numbering) (g.M.Memory.laws s.below) c.args.choice.now c.args.steps c.settle.ensures.after

pub returns-clause-free : goal.returns-clause-free
returns-clause-free g c =
    let s = c.args.self.now in
    layered_free (g.met.N.Renumber.sound s.numbering) (g.M.Memory.laws s.below) c.settle.ensures.free
