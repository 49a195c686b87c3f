use Rattle.sj_units.proofs.Exact as exact
use Rattle.sj_units.proofs.modified.reads_what_is_written.Goals as goal

pub returns : goal.returns
returns c = exact.reads_what_is_written
