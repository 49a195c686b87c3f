use Rattle.sj_split_laws.proofs.Placing.{placed_where_public_or_owning}
use Rattle.sj_split_laws.proofs.laws.placed_where_public_or_owning.Goals as goal

pub returns : goal.returns
returns c = placed_where_public_or_owning
