use Rattle.sj_reach_spec.proofs.Derivations.{closed}
use Rattle.sj_reach_spec.proofs.laws.reachable_facts_are_closed.Goals as goal

pub returns : goal.returns
returns c = closed
