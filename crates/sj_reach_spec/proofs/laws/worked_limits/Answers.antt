use Rattle.sj_reach_spec.proofs.Alone.{told_alone}
use Rattle.sj_reach_spec.proofs.Unreached.{unneeded}
use Rattle.sj_reach_spec.proofs.laws.worked_limits.Goals as goal

pub returns-clause-unneeded : goal.returns-clause-unneeded
returns-clause-unneeded c = unneeded

pub returns-clause-alone : goal.returns-clause-alone
returns-clause-alone c = told_alone
