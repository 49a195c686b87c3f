use Rattle.module_names.proofs.Differ.{names_differ}
use Rattle.module_names.proofs.laws.names_differ.Goals as goal

pub returns : goal.returns
returns c = names_differ
