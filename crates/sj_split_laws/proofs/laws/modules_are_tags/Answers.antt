use Rattle.sj_split_laws.proofs.Placing.{modules_are_tags}
use Rattle.sj_split_laws.proofs.laws.modules_are_tags.Goals as goal

pub returns : goal.returns
returns c = modules_are_tags
