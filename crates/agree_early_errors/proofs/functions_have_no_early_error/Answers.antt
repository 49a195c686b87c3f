use Rattle.agree_early_errors.proofs.Modules as modules
use Rattle.agree_early_errors.proofs.functions_have_no_early_error.Goals as goal

pub returns : goal.returns
returns c = modules.item_proper
