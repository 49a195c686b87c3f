use Rattle.sj_ask.specs.Answers.{IsAnswer}
use Rattle.sj_typing_spec.proofs.Steps.{ran_sub}
use Rattle.sj_typing.proofs.checks.ask_sub.Goals as goal

pub returns-clause-ran : goal.returns-clause-ran
returns-clause-ran g c =
    let is = rw c.in_ok-question.ensures at c.in_ok-answer.ensures.answer in
    let told = rw c.in_ok-question.ensures at c.in_ok-answer.ensures.told in
    rw c.says_yes.ensures (ran_sub (IsAnswer (g.O.Oracle.stand c.args.oracle.now)) c.args.sub.now c.args.above.now c.in_ok-answer.answer _ _ is told)
