use Rattle.sj_split_laws.proofs.OnePlan.{plans_are_one}
use Rattle.sj_split_laws.proofs.laws.plans_are_one.Goals as goal

pub returns : goal.returns
returns c = plans_are_one
