use Rattle.sj_local.proofs.Once.{checks_once}
use Rattle.sj_local.proofs.laws.check_is_one.Goals as goal

pub returns : goal.returns
returns c = checks_once
