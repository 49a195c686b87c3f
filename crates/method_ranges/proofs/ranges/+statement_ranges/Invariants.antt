use Rattle.std.proofs.Common.{take}
use Rattle.std.specs.Prelude.{All}
use Rattle.js_tree.specs.Rules.{IsNumber}
use Rattle.sj_core.specs.Views.{statement_view, case_view}
use Rattle.sj_emit_expr_pieces.specs.Ranges.{FitsStatement, FitStatements}
use Rattle.method_ranges.proofs.ranges.+statement_ranges.Given as goal

abbrev pub invariant-statements_fit-loop-each : goal.invariant-statements_fit-loop-each
invariant-statements_fit-loop-each l = All (λ s. FitsStatement (statement_view s)) (take l.each-index l.statements)

abbrev pub invariant-cases_fit-loop-each : goal.invariant-cases_fit-loop-each
invariant-cases_fit-loop-each l = All (λ c. All IsNumber (case_view c).0 × FitStatements (case_view c).1) (take l.each-index l.cases)
