use Rattle.sj_reach_spec.proofs.Rows.{abstract_targets}
use Rattle.sj_reach_spec.proofs.laws.worked_abstract_targets.Goals as goal

pub returns : goal.returns
returns c = abstract_targets
