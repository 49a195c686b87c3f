-- The piece of any method: a function, which has its receiver as the first parameter where there is one.
use Rattle.std.specs.Prelude.{List, ◌∷◌}
use Rattle.js_tree.specs.Terms.{Name, Piece}
use Rattle.sj_desugar_spec.specs.Lookup.{Lookup}
use Rattle.sj_desugar_spec.specs.Terms.{Method, receiver}
use Rattle.sj_emit_expr_spec.specs.Names.{variable_name}
use Rattle.sj_emit_expr_spec.specs.Pieces.{function_piece}
use Rattle.sj_emit_expr_spec.specs.Templates.{parameter_names, body_template}
use Rattle.sj_emit_expr_spec.specs.Uses.{uses}
use Rattle.sj_mangling.specs.Member.{Member}
use Rattle.sj_mangling.specs.Namespace.{Namespace}
use Rattle.sj_mangling.specs.NamespaceVariants.{PublicStatic, PrivateStatic}

-- `$this` in front, but in a static method
abbrev pub with_receiver : Namespace → List Name → List Name
with_receiver PublicStatic xs = xs
with_receiver PrivateStatic xs = xs
with_receiver _ xs = variable_name receiver ∷ xs

abbrev pub function_parameters : Method → List Name
function_parameters m = with_receiver m.namespace (parameter_names m.params)

-- by what is known of the classes
abbrev pub member_piece : Lookup → Member → Method → Piece
member_piece known m c = function_piece m (function_parameters c) (body_template known c) (uses known c.body)
