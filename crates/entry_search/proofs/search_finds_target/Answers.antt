use Rattle.entry_search.proofs.Found as laws
use Rattle.entry_search.proofs.search_finds_target.Goals as goal

pub returns : goal.returns
returns c = laws.search_finds_target
