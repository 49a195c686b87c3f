use Rattle.sj_names.proofs.ReadReferences as reading
use Rattle.sj_names.proofs.laws.reads_references.Goals as goal

pub returns : goal.returns
returns c = reading.reads_references
