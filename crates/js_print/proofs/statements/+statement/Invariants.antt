use Rattle.std.proofs.Common.{◌≡◌, drop}
use Rattle.js_tree.specs.Texts.{put_lines, put_cases}
use Rattle.js_tree.specs.Views.{statements_view, cases_view}
use Rattle.js_print.proofs.statements.+statement.Given as goal

abbrev pub invariant-append_lines-loop-each : goal.invariant-append_lines-loop-each
invariant-append_lines-loop-each l = put_lines l.level (statements_view (drop l.each-index l.statements)) l.out.items ≡ put_lines l.level (statements_view l.statements) l.initial.out.items

abbrev pub invariant-append_cases-loop-each : goal.invariant-append_cases-loop-each
invariant-append_cases-loop-each l = put_cases l.level (cases_view (drop l.each-index l.cases)) l.out.items ≡ put_cases l.level (cases_view l.cases) l.initial.out.items
