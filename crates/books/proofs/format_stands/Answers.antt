use Rattle.books.proofs.FormatLaws.{format_cut_holds, formats_hold}
use Rattle.books.proofs.format_stands.Goals as goal

pub returns : goal.returns
returns c = record { makes = formats_hold; cut = format_cut_holds }
