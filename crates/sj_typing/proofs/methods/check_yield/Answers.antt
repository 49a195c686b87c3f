use Rattle.std.proofs.Common.{true, false, Err}
use Rattle.sj_ask.specs.Answers.{IsAnswer}
use Rattle.sj_typing_spec.proofs.Steps.{as_done, as_ended, as_asked}
use Rattle.sj_typing.proofs.methods.check_yield.Goals as goal

pub returns-then-branch-clause-told : goal.returns-then-branch-clause-told
returns-then-branch-clause-told g c =
    let h = rw (c.in_ok-tpe.ensures, c.if-branch.true) at c.in_ok-ask_sub.ensures.ran in
    as_asked (IsAnswer (g.O.Oracle.stand c.args.oracle.now)) _ _ true _ _ _ _ _ h (as_done _ true _)

pub returns-clause-told : goal.returns-clause-told
returns-clause-told g c =
    let h = rw (c.in_ok-tpe.ensures, c.if-branch.false) at c.in_ok-ask_sub.ensures.ran in
    as_asked (IsAnswer (g.O.Oracle.stand c.args.oracle.now)) _ _ false _ _ _ _ _ h (as_ended _ (Err _) _)
