use Rattle.sj_ask.specs.Answers.{IsAnswer}
use Rattle.sj_core.specs.Views.{method_view}
use Rattle.sj_emit_expr_parts.proofs.Asked.{as-emitted}
use Rattle.sj_emit_expr.proofs.members.emit_member.Goals as goal

pub returns-clause-told : goal.returns-clause-told
returns-clause-told g c = as-emitted (IsAnswer (g.O.Oracle.stand c.args.oracle.now)) (method_view c.args.m.now) _ _ _ _ c.in_ok-known.ensures.asked c.emit_function.ensures
