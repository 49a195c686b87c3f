use Rattle.agree_local_rules.proofs.Methods as methods
use Rattle.agree_local_rules.proofs.names_are_defined_once.Goals as goal

pub returns : goal.returns
returns c = methods.names_keep
