use Rattle.entry_search.proofs.Ending as laws
use Rattle.entry_search.proofs.chains_end.Goals as goal

pub returns : goal.returns
returns c = laws.chains_end
