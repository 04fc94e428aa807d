use Rattle.index.proofs.PlaceLaws.{placed, numbered, every_number}
use Rattle.index.proofs.laws.places_stand.Goals as goal

pub returns : goal.returns
returns c = record { place = placed; number = numbered; every = every_number }
