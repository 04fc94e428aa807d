use Rattle.std.proofs.Common.{arith}
use Rattle.index.specs.Meaning.{grouped}
use Rattle.index.proofs.LocateLaws.{length_grouped}
use Rattle.index.proofs.PlaceLaws.{first_within, first_position}
use Rattle.index.proofs.table.Index.first.Goals as goal

pub returns : goal.returns
unfolding grouped
returns c =
    let x = c.args.self.now in
    let gs = grouped x in
    record {
      within = first_within gs (omega (arith, length_grouped x, x.size.0)) x.full;
      place = first_position gs;
    }
