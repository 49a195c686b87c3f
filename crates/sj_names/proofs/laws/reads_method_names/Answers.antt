use Rattle.sj_names.proofs.ReadMethodNames as reading
use Rattle.sj_names.proofs.laws.reads_method_names.Goals as goal

pub returns : goal.returns
returns c = reading.reads_method_names
