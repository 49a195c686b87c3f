use Rattle.std.proofs.Common.{true}
use Rattle.sj_ask.specs.Answers.{IsAnswer}
use Rattle.sj_typing_spec.proofs.Steps.{as_done, wanted-is}
use Rattle.sj_typing.proofs.methods.check_result.Goals as goal

pub returns-in-NoType-clause-told : goal.returns-in-NoType-clause-told
returns-in-NoType-clause-told g c = rw c.in-NoType.is (as_done (IsAnswer (g.O.Oracle.stand c.args.oracle.now)) true _)

pub returns-in_default-clause-told : goal.returns-in_default-clause-told
returns-in_default-clause-told g c = rw (wanted-is _ c.args.result_type.now c.in_default.not-NoType) c.check_yield.ensures.told
