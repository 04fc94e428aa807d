use Rattle.books.proofs.BoundLaws.{locates_hold, opening_bounds_hold}
use Rattle.books.proofs.FootprintLaws.{depends_holds}
use Rattle.books.proofs.OpensLaws.{opening_holds}
use Rattle.books.proofs.books_stand.Goals as goal

pub returns : goal.returns
returns c = record { opening = opening_holds; footprint = depends_holds; bounds = opening_bounds_hold; locates = locates_hold }
