use Rattle.sj_emit_expr_pieces.proofs.Owned.{desugared-owned, member-owned}
use Rattle.sj_emit_expr_pieces.proofs.laws.desugared_fields_have_owners.Goals as goal

pub returns-clause-methods : goal.returns-clause-methods
returns-clause-methods c = desugared-owned

pub returns-clause-members : goal.returns-clause-members
returns-clause-members c = member-owned
