use Rattle.sj_split_plans.proofs.Planning.{plans_exist}
use Rattle.sj_split_plans.proofs.plans_exist.Goals as goal

pub returns : goal.returns
returns c = plans_exist
