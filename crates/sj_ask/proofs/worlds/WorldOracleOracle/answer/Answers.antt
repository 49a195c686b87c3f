use Rattle.std.proofs.Common.{sym, subst}
use Rattle.sj_ask.specs.declared.questions.Question.{Question}
use Rattle.sj_ask.specs.declared.questions.Answer.TheVariants.{Yes}
use Rattle.sj_ask.specs.Stands.{stand_of}
use Rattle.sj_ask.specs.Answers.{IsAnswer}
use Rattle.sj_ask.proofs.worlds.WorldOracleOracle.answer.Goals as goal

pub returns-in-IsSub-clause-answer : goal.returns-in-IsSub-clause-answer
returns-in-IsSub-clause-answer c = subst (λ (q : Question). IsAnswer (stand_of c.args.self.now.world.now c.args.self.now.member.now) q (Yes c.is_sub.result)) (sym c.in-IsSub.is) (rw c.world-world.ensures at c.is_sub.ensures)

pub returns-in-HasHijacked-clause-answer : goal.returns-in-HasHijacked-clause-answer
returns-in-HasHijacked-clause-answer c = subst (λ (q : Question). IsAnswer (stand_of c.args.self.now.world.now c.args.self.now.member.now) q (Yes c.has_hijacked.result)) (sym c.in-HasHijacked.is) (rw c.world-world.ensures at c.has_hijacked.ensures)
