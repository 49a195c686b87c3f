use Rattle.std.proofs.Common.{◌≡◌, ◌++◌, drop}
use Rattle.sj_emit_expr_questions.specs.Calls.{calls_in_all}
use Rattle.sj_core.specs.Views.{expressions_view}
use Rattle.sj_emit_expr_parts.proofs.receivers.+expression_calls.Given as goal

abbrev pub invariant-add_calls_in_all-loop-each : goal.invariant-add_calls_in_all-loop-each
invariant-add_calls_in_all-loop-each l = l.inquiries.items ++ calls_in_all (expressions_view (drop l.each-index l.expressions)) ≡ l.fn.inquiries.items ++ calls_in_all (expressions_view l.expressions)
