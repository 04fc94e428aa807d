use Rattle.desk.proofs.layered.Desk.over.Goals as goal

pub returns-clause-pile : goal.returns-clause-pile
returns-clause-pile g c =
    let meant = c.piled.ensures.meaning c.as_slice.ensures.fits in
    let made = c.new-book.ensures.pile in
    let value = c.as_slice.ensures.value in
    let words = c.unpile-words.ensures in
    let released = c.release.ensures in
    cc
