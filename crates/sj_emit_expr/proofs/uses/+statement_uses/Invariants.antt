use Rattle.std.proofs.Common.{◌≡◌, drop}
use Rattle.sj_core.specs.Views.{statements_view, cases_view}
use Rattle.sj_emit_expr_spec.specs.Uses.{uses_of_all, uses_of_cases}
use Rattle.sj_emit_expr.specs.Collecting.{with_uses}
use Rattle.sj_emit_expr_parts.specs.Known.{lookup_of}
use Rattle.sj_emit_expr.proofs.uses.+statement_uses.Given as goal

abbrev pub invariant-add_uses_of_all-loop-each : goal.invariant-add_uses_of_all-loop-each
invariant-add_uses_of_all-loop-each l = with_uses l.bindings.items (uses_of_all (lookup_of l.known) (statements_view (drop l.each-index l.statements))) ≡ with_uses l.fn.bindings.items (uses_of_all (lookup_of l.known) (statements_view l.statements))

abbrev pub invariant-add_uses_of_cases-loop-each : goal.invariant-add_uses_of_cases-loop-each
invariant-add_uses_of_cases-loop-each l = with_uses l.bindings.items (uses_of_cases (lookup_of l.known) (cases_view (drop l.each-index l.cases))) ≡ with_uses l.fn.bindings.items (uses_of_cases (lookup_of l.known) (cases_view l.cases))
