use Rattle.agree_calls.proofs.Names as names
use Rattle.agree_calls.proofs.emitted_names_differ.Goals as goal

pub returns : goal.returns
returns c = names.emitted_names_differ
