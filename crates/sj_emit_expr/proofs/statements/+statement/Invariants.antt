use Rattle.std.proofs.Common.{◌≡◌, drop, map}
use Rattle.js_tree.specs.Views as js
use Rattle.sj_core.specs.Views as core
use Rattle.sj_emit_expr_spec.specs.Names.{variable_name, label_name}
use Rattle.sj_emit_expr_spec.specs.Templates.{statement_templates, case_templates}
use Rattle.sj_emit_expr_parts.specs.Known.{lookup_of}
use Rattle.sj_emit_expr.proofs.statements.+statement.Given as goal

abbrev pub invariant-emit_statements-loop-each : goal.invariant-emit_statements-loop-each
invariant-emit_statements-loop-each l = js.statements_onto (map js.statement_view l.emitted.items) (statement_templates variable_name label_name (lookup_of l.known) (core.statements_view (drop l.each-index l.statements))) ≡ statement_templates variable_name label_name (lookup_of l.known) (core.statements_view l.statements)

abbrev pub invariant-emit_cases-loop-each : goal.invariant-emit_cases-loop-each
invariant-emit_cases-loop-each l = js.cases_onto (map js.case_view l.emitted.items) (case_templates variable_name label_name (lookup_of l.known) (core.cases_view (drop l.each-index l.cases))) ≡ case_templates variable_name label_name (lookup_of l.known) (core.cases_view l.cases)
