use Rattle.sj_reach_spec.proofs.Rows.{facts}
use Rattle.sj_reach_spec.proofs.laws.worked_facts.Goals as goal

pub returns : goal.returns
returns c = facts
