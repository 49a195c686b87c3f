use Rattle.sj_local.proofs.SameNames.{key_decides}
use Rattle.sj_local.proofs.members.MethodKeyKey.exact.Goals as goal

pub returns : goal.returns
returns c a b = key_decides a b
