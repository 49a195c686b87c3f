use Rattle.folder_judging.proofs.Refused.{duplicate, told_on_cycle, in_world}
use Rattle.folder_judging.proofs.judging.world_of.Goals as goal

pub returns-in-Ok : goal.returns-in-Ok
returns-in-Ok c = in_world c.args.classes.items _ c.args.broken.now c.kept_world.result c.requires c.in-Ok.ensures c.kept_world.ensures

pub returns-in-Err-DuplicateClass : goal.returns-in-Err-DuplicateClass
returns-in-Err-DuplicateClass c = duplicate c.args.classes.items _ c.refusal_at.result _ c.in-Err-DuplicateClass.field-0-is c.in-Err-DuplicateClass.ensures (rw c.text.ensures.text at c.refusal_at.ensures)

pub returns-in-Err-Cycle : goal.returns-in-Err-Cycle
returns-in-Err-Cycle c = told_on_cycle c.args.classes.items c.args.broken.now _ c.refusal_on_cycle.result _ c.in-Err-Cycle.field-0-is c.requires c.in-Err-Cycle.ensures c.refusal_on_cycle.ensures
