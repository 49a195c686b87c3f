use Rattle.std.proofs.Common.{refl}
use Rattle.std.specs.Fmt.{digits}
use Rattle.js_tree.specs.Written.{put}
use Rattle.sj_emit_expr_spec.proofs.worked_functions.Goals as goal

pub returns-clause-triples : goal.returns-clause-triples
unfolding put digits
returns-clause-triples c = refl

pub returns-clause-order : goal.returns-clause-order
unfolding put digits
returns-clause-order c = refl
