use Rattle.sj_gen.proofs.Paths.{paths_distinct, paths_rise}
use Rattle.sj_gen.proofs.laws.generated_paths_rise.Goals as goal

pub returns : goal.returns
returns c = record { distinct = paths_distinct; rise = paths_rise }
