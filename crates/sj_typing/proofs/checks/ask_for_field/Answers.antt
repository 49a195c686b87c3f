use Rattle.sj_ask.specs.Answers.{IsAnswer}
use Rattle.sj_typing_spec.proofs.Steps.{ran_field}
use Rattle.sj_typing.proofs.checks.ask_for_field.Goals as goal

pub returns-clause-ran : goal.returns-clause-ran
returns-clause-ran g c =
    let u = c.args.used.now in
    let is = rw c.in_ok-question.ensures at c.in_ok-answer.ensures.answer in
    let told = rw c.in_ok-question.ensures at c.in_ok-answer.ensures.told in
    ran_field (IsAnswer (g.O.Oracle.stand c.args.oracle.now)) u.class u.name u.is_static c.in_ok-answer.answer _ _ is told
