use Rattle.sj_ask.specs.declared.questions.Question.TheVariants as question
use Rattle.sj_world.specs.Subtypes.{IsSub}
use Rattle.sj_ask.specs.Stands.{stand_of}
use Rattle.sj_ask.specs.Answers.{IsAboveHijacked}
use Rattle.sj_ask.proofs.Said.{truth_said, asked_tested}
use Rattle.sj_ask.proofs.holding.is_answer.Goals as goal

pub returns-in-IsSub : goal.returns-in-IsSub
returns-in-IsSub c = asked_tested (stand_of c.args.world.now c.args.k.now) (question.IsSub c.in-IsSub.sub c.in-IsSub.above) c.args.question.now c.args.answer.now c.says.result c.in-IsSub.is (truth_said (IsSub c.args.world.now.world c.in-IsSub.sub c.in-IsSub.above) c.is_sub.result c.says.result c.args.answer.now (rw c.world.ensures at c.is_sub.ensures) c.says.ensures)

pub returns-in-HasHijacked : goal.returns-in-HasHijacked
returns-in-HasHijacked c = asked_tested (stand_of c.args.world.now c.args.k.now) (question.HasHijacked c.in-HasHijacked.class) c.args.question.now c.args.answer.now c.says-in-HasHijacked.result c.in-HasHijacked.is (truth_said (IsAboveHijacked c.args.world.now.world c.in-HasHijacked.class) c.has_hijacked.result c.says-in-HasHijacked.result c.args.answer.now (rw c.world-in-HasHijacked.ensures at c.has_hijacked.ensures) c.says-in-HasHijacked.ensures)
