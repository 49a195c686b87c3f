use Rattle.sj_emit_expr_pieces.proofs.Fitted.{names-fit, member-fits}
use Rattle.sj_emit_expr_pieces.proofs.laws.desugared_members_fit.Goals as goal

pub returns-clause-params : goal.returns-clause-params
returns-clause-params c = names-fit

pub returns-clause-members : goal.returns-clause-members
returns-clause-members c = member-fits
