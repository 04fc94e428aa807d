use Rattle.std.proofs.Common.{ap, sym, ◌∙◌}
use Rattle.desk.specs.Books.{pile_of}
use Rattle.desk.specs.Piles.{pile_words}
use Rattle.desk.proofs.book.Book.octets.Goals as goal

pub returns-in-Unkind-clause-same : goal.returns-in-Unkind-clause-same
returns-in-Unkind-clause-same g c =
    c.octets_of.ensures.same ∙ sym (ap (λ b. pile_words g.B.Memory.meaning (pile_of b)) c.in-Unkind.is)

pub returns-in-Stamps-clause-same : goal.returns-in-Stamps-clause-same
returns-in-Stamps-clause-same g c =
    c.octets_of-in-Stamps.ensures.same
    ∙ (ap (pile_words g.B.Memory.meaning) c.memory_mut.ensures.value
    ∙ sym (ap (λ b. pile_words g.B.Memory.meaning (pile_of b)) c.in-Stamps.is))

pub returns-in-Ports-clause-same : goal.returns-in-Ports-clause-same
returns-in-Ports-clause-same g c =
    c.octets_of-in-Ports.ensures.same
    ∙ (ap (pile_words g.B.Memory.meaning) c.memory_mut-in-Ports.ensures.value
    ∙ sym (ap (λ b. pile_words g.B.Memory.meaning (pile_of b)) c.in-Ports.is))
