use Rattle.class_code.proofs.Bridge as laws
use Rattle.class_code.proofs.lookup_searches.Goals as goal

pub returns : goal.returns
returns c = laws.lookup_searches
