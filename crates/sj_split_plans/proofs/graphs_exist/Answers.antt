use Rattle.sj_split_plans.proofs.Graphs.{graphs_exist}
use Rattle.sj_split_plans.proofs.graphs_exist.Goals as goal

pub returns : goal.returns
returns c = graphs_exist
