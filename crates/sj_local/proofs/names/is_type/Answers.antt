use Rattle.sj_trees.proofs.SameTypes.{type_test}
use Rattle.sj_local.proofs.names.is_type.Goals as goal

pub returns : goal.returns
returns c = type_test c.args.one.now c.args.other.now c.is_same.result c.is_same.ensures
