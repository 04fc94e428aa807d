use Rattle.std.proofs.Common.{refl, sym, subst}
use Rattle.desk.specs.Cuts.{BookSettles}
use Rattle.desk.proofs.book.Book.cut.Goals as goal

pub returns-in-Unkind-clause-words : goal.returns-in-Unkind-clause-words
returns-in-Unkind-clause-words g c =
    subst (λ b. BookSettles g.B.Memory.meaning c.args.choice.now c.args.steps b b) (sym c.in-Unkind.is) refl
