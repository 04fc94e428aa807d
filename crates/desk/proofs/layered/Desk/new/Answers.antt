use Rattle.std.proofs.Common.{ap}
use Rattle.desk.specs.Piles.{under}
use Rattle.desk.proofs.layered.Desk.new.Goals as goal

pub returns-clause-pile : goal.returns-clause-pile
returns-clause-pile g c =
    let meant = c.piled.ensures.meaning c.as_slice.ensures.fits in
    let made = c.new-book.ensures.pile in
    let value = c.as_slice.ensures.value in
    let none = ap (λ ls. under ls (g.B.Memory.meaning c.args.bottom)) c.new-layers.ensures in
    cc
