use Rattle.std.proofs.lemmas.Result.{err_from_is_err_and}
use Rattle.sj_ask.specs.Answers.{IsAnswer}
use Rattle.sj_typing_spec.proofs.Steps.{as_body, as_then, as_then_stop}
use Rattle.sj_typing.proofs.methods.check_body.Goals as goal

pub returns-in_err-check-clause-told : goal.returns-in_err-check-clause-told
returns-in_err-check-clause-told g c =
    let p = err_from_is_err_and c.from_residual.result c.from_residual.ensures.1 in
    let h = rw c.new-labels.ensures.items at c.in_err-check.ensures.ran in
    rw (p.1, p.2) (as_body (IsAnswer (g.O.Oracle.stand c.args.oracle.now)) _ _ _ _ _ _ (as_then_stop _ _ _ _ _ _ h))

pub returns-clause-told : goal.returns-clause-told
returns-clause-told g c =
    let h = rw c.new-labels.ensures.items at c.in_ok-check.ensures.ran in
    let k = rw c.in_ok-check.ensures.stand at c.check_result.ensures.told in
    as_body (IsAnswer (g.O.Oracle.stand c.args.oracle.now)) _ _ _ _ _ _ (as_then _ _ _ _ _ _ _ _ h k)
