use Rattle.folder_judging.proofs.Refused.{unresolved_at}
use Rattle.folder_judging.proofs.judging.linked_of.Goals as goal

pub returns-in-Err-Refused : goal.returns-in-Err-Refused
returns-in-Err-Refused c = rw c.in-Err-Refused.field-0-is (unresolved_at c.args.world.now c.args.entries.now _ _ _ c.in-Err-Refused.field-0-is c.in-Err-Refused.ensures)
