use Rattle.sj_split_laws.proofs.Names.{names_differ}
use Rattle.sj_split_laws.proofs.laws.names_differ.Goals as goal

pub returns : goal.returns
returns c = names_differ
