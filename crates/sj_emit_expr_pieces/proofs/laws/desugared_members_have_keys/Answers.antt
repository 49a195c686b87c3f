use Rattle.sj_emit_expr_pieces.proofs.Keyed.{member-keyed}
use Rattle.sj_emit_expr_pieces.proofs.laws.desugared_members_have_keys.Goals as goal

pub returns : goal.returns
returns c = member-keyed
