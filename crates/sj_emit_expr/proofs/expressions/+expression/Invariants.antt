use Rattle.std.proofs.Common.{◌≡◌, drop, map}
use Rattle.js_tree.specs.Views as js
use Rattle.sj_core.specs.Views as core
use Rattle.sj_emit_expr_spec.specs.Names.{variable_name, label_name}
use Rattle.sj_emit_expr_spec.specs.Templates.{expression_templates}
use Rattle.sj_emit_expr_parts.specs.Known.{lookup_of}
use Rattle.sj_emit_expr.proofs.expressions.+expression.Given as goal

abbrev pub invariant-emit_expressions-loop-each : goal.invariant-emit_expressions-loop-each
invariant-emit_expressions-loop-each l = js.expressions_onto (map js.expression_view l.emitted.items) (expression_templates variable_name label_name (lookup_of l.known) (core.expressions_view (drop l.each-index l.expressions))) ≡ expression_templates variable_name label_name (lookup_of l.known) (core.expressions_view l.expressions)
