use Rattle.sj_ask.proofs.Above.{object_tested, no_object}
use Rattle.sj_ask.proofs.hijacked.is_above_object.Goals as goal

pub returns-in-Some : goal.returns-in-Some
returns-in-Some c = object_tested c.args.world.now c.args.class.now c.in-Some.object.now c.is_ancestor.result c.in-Some.ensures c.is_ancestor.ensures

pub returns-in-None : goal.returns-in-None
returns-in-None c = no_object c.args.world.now c.args.class.now c.in-None.ensures
