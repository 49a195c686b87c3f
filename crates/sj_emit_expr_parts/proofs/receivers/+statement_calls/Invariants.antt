use Rattle.std.proofs.Common.{◌≡◌, ◌++◌, drop}
use Rattle.sj_emit_expr_questions.specs.Calls.{calls_of_all, calls_of_cases}
use Rattle.sj_core.specs.Views.{statements_view, cases_view}
use Rattle.sj_emit_expr_parts.proofs.receivers.+statement_calls.Given as goal

abbrev pub invariant-add_calls_of_all-loop-each : goal.invariant-add_calls_of_all-loop-each
invariant-add_calls_of_all-loop-each l = l.inquiries.items ++ calls_of_all (statements_view (drop l.each-index l.statements)) ≡ l.fn.inquiries.items ++ calls_of_all (statements_view l.statements)

abbrev pub invariant-add_calls_of_cases-loop-each : goal.invariant-add_calls_of_cases-loop-each
invariant-add_calls_of_cases-loop-each l = l.inquiries.items ++ calls_of_cases (cases_view (drop l.each-index l.cases)) ≡ l.fn.inquiries.items ++ calls_of_cases (cases_view l.cases)
