use Rattle.sj_ask.specs.Stands.{stand_of}
use Rattle.sj_ask.proofs.One.{body_tested, no_body_tested}
use Rattle.sj_ask.proofs.holding.is_body_answer.Goals as goal

pub returns-in-Some : goal.returns-in-Some
returns-in-Some c = body_tested (stand_of c.args.world.now c.args.k.now) c.args.member.now c.in-Some.method.now c.args.found.now c.is_that_method.result c.in-Some.ensures c.is_that_method.ensures

pub returns-in-None : goal.returns-in-None
returns-in-None c = no_body_tested (stand_of c.args.world.now c.args.k.now) c.args.member.now c.args.found.now c.is_none.result c.in-None.ensures c.is_none.ensures
