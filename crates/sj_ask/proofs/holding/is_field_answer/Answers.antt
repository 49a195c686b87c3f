use Rattle.sj_ask.proofs.One.{field_tested, no_field_tested}
use Rattle.sj_ask.proofs.holding.is_field_answer.Goals as goal

pub returns-in-Some : goal.returns-in-Some
returns-in-Some c = field_tested c.args.world.now c.args.class.now c.args.name.now c.args.is_static c.in-Some.field.now c.args.found.now c.is_that_field.result c.in-Some.ensures c.is_that_field.ensures

pub returns-in-None : goal.returns-in-None
returns-in-None c = no_field_tested c.args.world.now c.args.class.now c.args.name.now c.args.is_static c.args.found.now c.is_none.result c.in-None.ensures c.is_none.ensures
