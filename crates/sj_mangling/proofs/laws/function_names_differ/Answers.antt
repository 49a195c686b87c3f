use Rattle.sj_mangling.proofs.FunctionNames as names
use Rattle.sj_mangling.proofs.laws.function_names_differ.Goals as goal

pub returns : goal.returns
returns c = names.function_names_differ
