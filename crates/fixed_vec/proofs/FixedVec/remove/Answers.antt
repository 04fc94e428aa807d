use Rattle.std.proofs.Common.{◌-◌, take, ap, ◌∙◌, arith}
use Rattle.fixed_vec.proofs.Edits.{remove_shifts}
use Rattle.fixed_vec.proofs.FixedVec.remove.Goals as goal

pub returns : goal.returns
returns g c =
    let old = c.args.self.now in
    ap (take (old.len - 1)) c.copy_within.ensures.after ∙ remove_shifts old.slots old.len c.args.at (omega arith) (omega arith)
