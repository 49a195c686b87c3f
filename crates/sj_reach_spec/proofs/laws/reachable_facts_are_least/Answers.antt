use Rattle.sj_reach_spec.proofs.Derivations.{least}
use Rattle.sj_reach_spec.proofs.laws.reachable_facts_are_least.Goals as goal

pub returns : goal.returns
returns c = least
