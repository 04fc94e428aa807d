use Rattle.index.proofs.SearchLaws.{finds_first, finds_only}
use Rattle.index.proofs.laws.search_stands.Goals as goal

pub returns : goal.returns
returns c = record { first = finds_first; only = finds_only }
