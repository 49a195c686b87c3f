use Rattle.sj_split_laws.proofs.Names.{ids_are_not_internal}
use Rattle.sj_split_laws.proofs.laws.ids_are_not_internal.Goals as goal

pub returns : goal.returns
returns c = ids_are_not_internal
