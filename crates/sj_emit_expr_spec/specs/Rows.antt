-- Two methods, and the functions that are emitted for them.
use Rattle.std.specs.Prelude.{true, [], ◌∷◌, pos, codes, Some, None}
use Rattle.js_tree.specs.Terms.{function_item, Piece}
use Rattle.sj_desugar_spec.specs.Lookup.{own_targets}
use Rattle.sj_desugar_spec.specs.Desugar.{desugared, names_of}
use Rattle.sj_emit_expr_spec.specs.Templates.{parameter_names, body_template, member_name}
use Rattle.sj_emit_expr_spec.specs.Uses.{uses}
use Rattle.sj_mangling.specs.NamespaceVariants.{PublicStatic}
use Rattle.sj_mangling.specs.TypeRefVariants.{Int}
use Rattle.sj_desugar_spec.specs.Term.{Term, no_terms, more_terms, skip, block_of, assign, while_loop, int_literal, var_ref, binary_op, apply_static}
use Rattle.sj_desugar_spec.specs.MethodDef.{MethodDef}
use Rattle.sj_desugar_spec.specs.BinaryOpVariants.{IntMultiply, IntLess, IntAdd}
use Rattle.sj_desugar_spec.specs.Position.{Position}
use Rattle.sj_desugar_spec.specs.IrTypeVariants as Types

abbrev pub nowhere : Position
nowhere = record { file = 0; line = 0; column = 0 }

-- the piece of a method of the class `A`
abbrev pub piece_of : MethodDef → Term → Piece
piece_of d e = record {
  owner = codes "A";
  name = member_name (record { class = codes "A"; namespace = d.namespace; method = d.name });
  uses = uses own_targets (desugared d e).body;
  item = function_item (member_name (record { class = codes "A"; namespace = d.namespace; method = d.name })) (parameter_names (names_of d.params)) (body_template own_targets (desugared d e));
}

abbrev pub p_use : Term
p_use = var_ref nowhere (codes "p") Types.Int

-- `while (p < 10) { p = p * 3 }; p`
abbrev pub triples : Term
triples = block_of nowhere (more_terms (while_loop nowhere (binary_op nowhere IntLess p_use (int_literal nowhere (pos 10))) (assign nowhere p_use (binary_op nowhere IntMultiply p_use (int_literal nowhere (pos 3))))) (more_terms p_use no_terms))

-- `f;I;I` with the mutable parameter `p` and that body
abbrev pub triple_method : MethodDef
triple_method = record { pos = nowhere; namespace = PublicStatic; name = record { simple = codes "f"; params = Int ∷ []; result = Some Int }; params = record { name = codes "p"; «mutable» = true; tpe = Types.Int } ∷ []; result = Types.Int; body = Some triples; hash = None }

-- `one() + { skip; 2 }`
abbrev pub one_and_two : Term
one_and_two = binary_op nowhere IntAdd (apply_static nowhere (codes "A") PublicStatic (record { simple = codes "one"; params = []; result = Some Int }) no_terms Types.Int) (block_of nowhere (more_terms (skip nowhere) (more_terms (int_literal nowhere (pos 2)) no_terms)))

abbrev pub two_method : MethodDef
two_method = record { pos = nowhere; namespace = PublicStatic; name = record { simple = codes "two"; params = []; result = Some Int }; params = []; result = Types.Int; body = Some one_and_two; hash = None }
