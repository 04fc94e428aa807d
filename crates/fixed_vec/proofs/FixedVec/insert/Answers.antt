use Rattle.std.proofs.Common.{◌≡◌, ◌+◌, ◌<◌, true, leb, length, length-take, take, sym, ap, ◌∙◌, arith}
use Rattle.std.proofs.lemmas.Bool.{cond-true, le-leb}
use Rattle.std.proofs.Math.ListN.{set}
use Rattle.fixed_vec.specs.Items.{items}
use Rattle.fixed_vec.proofs.Edits.{insert_shifts}
use Rattle.fixed_vec.proofs.FixedVec.insert.Goals as goal

pub returns-clause-list : goal.returns-clause-list
returns-clause-list g c =
    let old = c.args.self.now in
    let place = c.min-place.result in
    let few : old.len < length old.slots = omega arith in
    let long = length-take old.len old.slots in
    let room : leb (length (items old) + 1) g.row.N ≡ true = le-leb (length (items old) + 1) g.row.N (omega arith) in
    ap (λ l. take (old.len + 1) (set l place c.args.item)) c.copy_within.ensures.after ∙ insert_shifts old.slots old.len c.args.at place c.args.item c.min-place.ensures few ∙ sym (cond-true _ _ _ room)
