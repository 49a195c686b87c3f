use Rattle.resolution_laws.proofs.Resolves as resolves
use Rattle.resolution_laws.proofs.each_call_resolves.Goals as goal

pub returns : goal.returns
returns c = resolves.each_call_resolves
