use Rattle.std.proofs.Common.{refl, sym, subst}
use Rattle.desk.specs.Books.{BookLeaves}
use Rattle.desk.proofs.book.Book.ask.Goals as goal

pub returns-in-Unkind-clause-words : goal.returns-in-Unkind-clause-words
returns-in-Unkind-clause-words g c sound =
    subst (λ b. BookLeaves g.B.Memory.meaning b b c.args.call) (sym c.in-Unkind.is) refl
