use Rattle.std.proofs.Common.{Some, None}
use Rattle.sj_ask.specs.Answers.{public_member}
use Rattle.sj_ask.proofs.One.{single_answer_tested, none_tested}
use Rattle.sj_ask.proofs.holding.is_single_answer.Goals as goal

pub returns-in-Some : goal.returns-in-Some
returns-in-Some c = single_answer_tested c.args.world.now.world c.args.world.now.facts c.args.class.now c.args.method.now (Some (public_member c.in-Some.owner.now c.args.method.now)) c.args.found.now c.is_public_member.result c.in-Some.ensures c.is_public_member.ensures

pub returns-in-None : goal.returns-in-None
returns-in-None c = single_answer_tested c.args.world.now.world c.args.world.now.facts c.args.class.now c.args.method.now None c.args.found.now c.is_none.result c.in-None.ensures (none_tested c.args.found.now c.is_none.result c.is_none.ensures)
