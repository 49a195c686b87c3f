use Rattle.entries_file.proofs.Rows.{rows_hold}
use Rattle.entries_file.proofs.laws.rows_hold.Goals as goal

pub returns : goal.returns
returns c = rows_hold
