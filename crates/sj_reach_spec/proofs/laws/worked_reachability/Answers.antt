use Rattle.sj_reach_spec.proofs.Rows.{worked}
use Rattle.sj_reach_spec.proofs.laws.worked_reachability.Goals as goal

pub returns : goal.returns
returns c = worked
