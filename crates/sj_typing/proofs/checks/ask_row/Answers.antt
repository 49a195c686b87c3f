use Rattle.std.proofs.lemmas.Result.{err_from_is_err_and}
use Rattle.sj_ask.specs.Answers.{IsAnswer}
use Rattle.sj_typing_spec.proofs.Steps.{as_row, as_row_no, as_then, as_then_stop}
use Rattle.sj_typing.proofs.checks.ask_row.Goals as goal

pub returns-then-not-row-clause-ran : goal.returns-then-not-row-clause-ran
returns-then-not-row-clause-ran g c = as_row_no (IsAnswer (g.O.Oracle.stand c.args.oracle.now)) c.args.fault c.args.row.now _ c.if-not-row.true

pub returns-in_err-ask_fits-clause-ran : goal.returns-in_err-ask_fits-clause-ran
returns-in_err-ask_fits-clause-ran g c =
    let p = err_from_is_err_and c.from_residual.result c.from_residual.ensures.1 in
    let h = rw c.as_slice.ensures at c.in_err-ask_fits.ensures.ran in
    rw (p.1, p.2) (as_row (IsAnswer (g.O.Oracle.stand c.args.oracle.now)) c.args.fault c.args.row.now _ _ _ c.if-not-row.false (as_then_stop _ _ _ _ _ _ h))

pub returns-clause-ran : goal.returns-clause-ran
returns-clause-ran g c =
    let h = rw c.as_slice.ensures at c.in_ok-ask_fits.ensures.ran in
    let k = rw c.in_ok-ask_fits.ensures.stand at c.ask_field.ensures.ran in
    as_row (IsAnswer (g.O.Oracle.stand c.args.oracle.now)) c.args.fault c.args.row.now _ _ _ c.if-not-row.false (as_then _ _ _ _ _ _ _ _ h k)
