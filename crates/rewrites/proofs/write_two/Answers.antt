use Rattle.std.proofs.Common.{◌≡◌, length, arith}
use Rattle.rewrites.proofs.CodeLaws.{two_words}
use Rattle.rewrites.proofs.write_two.Goals as goal

pub returns-in-len2-clause-done : goal.returns-in-len2-clause-done
returns-in-len2-clause-done g c near counted =
    let ps = c.args.pairs.now in
    let both : length ps ≡ 2 = omega arith in
    rw (two_words ps (record { key = (0, 0); reading = 0 }) both) (c.write_row-in-len2.ensures.done (omega arith) (omega arith))
