use Rattle.sj_emit_expr_pieces.proofs.Keyed.{desugared-keyed}
use Rattle.sj_emit_expr_pieces.proofs.laws.desugared_methods_have_keys.Goals as goal

pub returns : goal.returns
returns c = desugared-keyed
