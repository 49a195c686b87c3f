use Rattle.sj_world.proofs.Once.{resolves_once}
use Rattle.sj_world.proofs.laws.calls_resolve_once.Goals as goal

pub returns : goal.returns
returns c = resolves_once
