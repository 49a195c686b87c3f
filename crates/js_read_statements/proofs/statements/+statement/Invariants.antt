use Rattle.std.proofs.Common.{◌≡◌, ◌-◌, ◌*◌, ◌+◌, map, eqb}
use Rattle.exact_place.specs.Reading.{list_at}
use Rattle.js_tree.specs.Views.{statement_view, case_view}
use Rattle.js_read_spec.specs.Statements.{statement_at, line_at, lines_at, case_at, cases_at}
use Rattle.text_scan.proofs.Loops.{with_front}
use Rattle.js_read_statements.proofs.statements.+statement.Given as goal

abbrev pub decreases-statement_of : goal.decreases-statement_of
decreases-statement_of l = 16 * l.fuel

abbrev pub decreases-line_of : goal.decreases-line_of
decreases-line_of l = 16 * l.fuel + 1

abbrev pub decreases-lines_of : goal.decreases-lines_of
decreases-lines_of l = 16 * l.fuel + 2

abbrev pub decreases-block_of : goal.decreases-block_of
decreases-block_of l = 16 * l.fuel + 3

abbrev pub decreases-block_behind : goal.decreases-block_behind
decreases-block_behind l = 16 * l.fuel + 4

abbrev pub decreases-case_of : goal.decreases-case_of
decreases-case_of l = 16 * l.fuel + 5

abbrev pub decreases-cases_of : goal.decreases-cases_of
decreases-cases_of l = 16 * l.fuel + 6

abbrev pub decreases-default_of : goal.decreases-default_of
decreases-default_of l = 16 * l.fuel + 5

abbrev pub decreases-switch_of : goal.decreases-switch_of
decreases-switch_of l = 16 * l.fuel + 7

abbrev pub decreases-switch_after : goal.decreases-switch_after
decreases-switch_after l = 16 * l.fuel + 8

abbrev pub decreases-catch_of : goal.decreases-catch_of
decreases-catch_of l = 16 * l.fuel + 5

abbrev pub decreases-handler_of : goal.decreases-handler_of
decreases-handler_of l = 16 * l.fuel + 6

abbrev pub decreases-try_after : goal.decreases-try_after
decreases-try_after l = 16 * l.fuel + 7

abbrev pub decreases-labeled_of : goal.decreases-labeled_of
decreases-labeled_of l = 16 * l.fuel + 5

abbrev pub decreases-target_of : goal.decreases-target_of
decreases-target_of l = 16 * l.fuel + 6

abbrev pub decreases-else_of : goal.decreases-else_of
decreases-else_of l = 16 * l.fuel + 5

abbrev pub decreases-if_after : goal.decreases-if_after
decreases-if_after l = 16 * l.fuel + 6

abbrev pub decreases-while_after : goal.decreases-while_after
decreases-while_after l = 16 * l.fuel + 5

abbrev pub decreases-do_after : goal.decreases-do_after
decreases-do_after l = 16 * l.fuel + 5

abbrev pub decreases-statement_after : goal.decreases-statement_after
decreases-statement_after l = 16 * l.fuel + 9

abbrev pub invariant-lines_of-loop : goal.invariant-lines_of-loop
invariant-lines_of-loop l = with_front (map statement_view l.statements.items) (list_at (l.fuel - l.counter) (λ c. eqb c 32) (line_at (statement_at l.fuel) l.fuel l.level) l.rest) ≡ lines_at (statement_at l.fuel) l.fuel l.level l.bytes

abbrev pub invariant-cases_of-loop : goal.invariant-cases_of-loop
invariant-cases_of-loop l = with_front (map case_view l.cases.items) (list_at (l.fuel - l.counter) (λ c. eqb c 99) (case_at (statement_at l.fuel) l.fuel l.level) l.rest) ≡ cases_at (statement_at l.fuel) l.fuel l.level l.bytes
