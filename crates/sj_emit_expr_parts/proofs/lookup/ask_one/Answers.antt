use Rattle.sj_ask.specs.Answers.{IsAnswer}
use Rattle.sj_emit_expr_parts.proofs.Asked.{asked-one}
use Rattle.sj_emit_expr_parts.proofs.lookup.ask_one.Goals as goal

pub returns-clause-ran : goal.returns-clause-ran
returns-clause-ran g c =
    let is = rw c.in_ok-question.ensures at c.in_ok-answer.ensures.answer in
    let told = rw c.in_ok-question.ensures at c.in_ok-answer.ensures.told in
    λ found. asked-one (IsAnswer (g.O.Oracle.stand c.args.oracle.now)) c.args.inquiry.now c.in_ok-answer.answer found _ _ is told
