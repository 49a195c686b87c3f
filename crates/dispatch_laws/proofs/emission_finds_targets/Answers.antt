use Rattle.dispatch_laws.proofs.Emission as emission
use Rattle.dispatch_laws.proofs.emission_finds_targets.Goals as goal

pub returns : goal.returns
returns c = emission.emission_finds_targets
