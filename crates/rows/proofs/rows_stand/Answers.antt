use Rattle.rows.proofs.RowLaws.{rows}
use Rattle.rows.proofs.rows_stand.Goals as goal

pub returns : goal.returns
returns c = rows
