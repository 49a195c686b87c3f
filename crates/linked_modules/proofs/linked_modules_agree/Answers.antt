use Rattle.linked_modules.proofs.Whole.{linked_modules_agree}
use Rattle.linked_modules.proofs.linked_modules_agree.Goals as goal

pub returns : goal.returns
returns c = linked_modules_agree
