use Rattle.sj_infos_laws.proofs.Firsts.{one}
use Rattle.sj_infos_laws.proofs.laws.infos_are_one.Goals as goal

pub returns : goal.returns
returns c = one
