use Rattle.std.proofs.Common.{sym, refl, ◌∙◌, arith}
use Rattle.std.proofs.lemmas.Result.{err_from_is_err_and}
use Rattle.image.proofs.Images.{carried}
use Rattle.rows.proofs.tests.of_image.carry.Goals as goal

pub returns-in_err-write : goal.returns-in_err-write
returns-in_err-write g c =
    let p = err_from_is_err_and c.from_residual.result c.from_residual.ensures.1 in
    rw p.1 (λ e. grind arith)

pub returns : goal.returns
returns g c = λ ok.
    carried (g.M.Memory.meaning c.args.memory.now).live c.args.octets.now c.write.new.octets c.args.words.now c.read.new.words
    (c.in_ok-write.ensures.fit refl) c.in_ok-write.ensures.answer c.in_ok-write.ensures.after
    (sym ok ∙ c.read.ensures.answer) c.read.ensures.after
