use Rattle.agree_calls.proofs.Whole as whole
use Rattle.agree_calls.proofs.file_of_functions_agrees.Goals as goal

pub returns : goal.returns
returns c = whole.file_agrees
