-- The functions of methods.
use Rattle.std.specs.Prelude.{◌≡◌}
use Rattle.sj_emit_expr_questions.specs.Task.{emitted, emitted_view}
use Rattle.js_tree.specs.declared.items.JsMember.{JsMember}
use Rattle.sj_core.specs.Lookup.{Lookup}
use Rattle.sj_core.specs.Terms.{Method}
use Rattle.sj_emit_expr_pieces.specs.Fits.{TargetsFit}

-- the function of a method, by what is known of the classes where its calls are written; what these run has names of bytes
pub record IsEmitted (m : Method) (f : JsMember) : Type 0 where
  pub known : Lookup
  pub is : emitted_view f ≡ emitted known m
  pub fit : TargetsFit known m
