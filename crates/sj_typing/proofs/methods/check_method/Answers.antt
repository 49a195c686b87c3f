use Rattle.sj_typing_spec.proofs.Verdicts.{verdict}
use Rattle.sj_typing.proofs.methods.check_method.Goals as goal

pub returns-in-Some-clause-verdict : goal.returns-in-Some-clause-verdict
returns-in-Some-clause-verdict g c =
    let h = rw c.tree.ensures at c.check_body.ensures.told in
    verdict (g.O.Oracle.stand c.args.oracle.now) c.args.m.now _ c.in-Some.is c.check_body.result _ _ h

pub returns-in-Some-clause-told : goal.returns-in-Some-clause-told
returns-in-Some-clause-told g c =
    let h = rw c.tree.ensures at c.check_body.ensures.told in
    rw c.in-Some.is h
