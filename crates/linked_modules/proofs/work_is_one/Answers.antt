use Rattle.linked_modules.proofs.Edits.{one_work}
use Rattle.linked_modules.proofs.work_is_one.Goals as goal

pub returns : goal.returns
returns c = one_work
