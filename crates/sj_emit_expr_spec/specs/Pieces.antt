-- The piece of a method without a receiver.
use Rattle.std.specs.Prelude.{List}
use Rattle.js_tree.specs.Terms.{Name, Statements, Piece, function_item}
use Rattle.js_tree.specs.declared.items.Binding.{Binding}
use Rattle.sj_desugar_spec.specs.Lookup.{Lookup}
use Rattle.sj_desugar_spec.specs.Terms.{Method}
use Rattle.sj_emit_expr_spec.specs.Templates.{member_name, parameter_names, body_template}
use Rattle.sj_emit_expr_spec.specs.Uses.{uses}
use Rattle.sj_mangling.specs.Member.{Member}

-- `function NAME(params) { body }`, which the class owns, with the bindings that the body uses
abbrev pub function_piece : Member → List Name → Statements → List Binding → Piece
function_piece m params body used = record { owner = m.class; name = member_name m; uses = used; item = function_item (member_name m) params body }

abbrev pub piece_of : Lookup → Member → Method → Piece
piece_of known m c = function_piece m (parameter_names c.params) (body_template known c) (uses known c.body)
