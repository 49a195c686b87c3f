use Rattle.sj_ask.proofs.Above.{name_tested}
use Rattle.sj_ask.proofs.hijacked.is_above.Goals as goal

pub returns-in-Some : goal.returns-in-Some
returns-in-Some c = name_tested c.args.world.now c.args.below.now c.args.class.now c.in-Some.below.now c.is_ancestor.result c.in-Some.ensures c.is_ancestor.ensures
