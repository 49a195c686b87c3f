use Rattle.std.proofs.Common.{true}
use Rattle.sj_ask.specs.Answers.{IsAnswer}
use Rattle.sj_typing_spec.specs.Checks.{judge_field}
use Rattle.sj_typing_spec.proofs.Steps.{as_done, as_found, as_judged}
use Rattle.sj_typing.proofs.checks.ask_field.Goals as goal

pub returns-in_ok-found-in-Some-clause-ran : goal.returns-in_ok-found-in-Some-clause-ran
returns-in_ok-found-in-Some-clause-ran g c =
    rw c.in-Some.is (as_found (IsAnswer (g.O.Oracle.stand c.args.oracle.now)) _ _ _ _ (judge_field c.args.fault c.in-Some.used) _ _ _ _ c.in_ok-found-in-Some.ensures.ran (as_judged _ _ _ _ c.judge_field.ensures))

pub returns-in-None-clause-ran : goal.returns-in-None-clause-ran
returns-in-None-clause-ran g c = rw c.in-None.is (as_done (IsAnswer (g.O.Oracle.stand c.args.oracle.now)) true _)
