use Rattle.std.proofs.Common.{◌≡◌, ◌-◌, ◌*◌, ◌+◌, codes, map}
use Rattle.exact_place.specs.Reading.{list_at, lead_at, map_at}
use Rattle.js_tree.specs.Views.{expression_view}
use Rattle.js_read_spec.specs.Expressions.{is_comma, is_suffix, with_suffixes, expression_at, more_at, suffix_at, suffixes_at}
use Rattle.text_scan.proofs.Loops.{with_front}
use Rattle.js_read_expressions.proofs.expressions.+expression.Given as goal

abbrev pub decreases-wordless_of : goal.decreases-wordless_of
decreases-wordless_of l = 16 * l.fuel

abbrev pub decreases-expression_of : goal.decreases-expression_of
decreases-expression_of l = 16 * l.fuel + 1

abbrev pub decreases-boxed_before : goal.decreases-boxed_before
decreases-boxed_before l = 16 * l.fuel + 2

abbrev pub decreases-boxed_between : goal.decreases-boxed_between
decreases-boxed_between l = 16 * l.fuel + 3

abbrev pub decreases-next_of : goal.decreases-next_of
decreases-next_of l = 16 * l.fuel + 2

abbrev pub decreases-more_of : goal.decreases-more_of
decreases-more_of l = 16 * l.fuel + 3

abbrev pub decreases-expressions_of : goal.decreases-expressions_of
decreases-expressions_of l = 16 * l.fuel + 4

abbrev pub decreases-arguments_of : goal.decreases-arguments_of
decreases-arguments_of l = 16 * l.fuel + 5

abbrev pub decreases-host_of : goal.decreases-host_of
decreases-host_of l = 16 * l.fuel + 4

abbrev pub decreases-host_of_two : goal.decreases-host_of_two
decreases-host_of_two l = 16 * l.fuel + 4

abbrev pub decreases-unary_of : goal.decreases-unary_of
decreases-unary_of l = 16 * l.fuel + 4

abbrev pub decreases-new_after : goal.decreases-new_after
decreases-new_after l = 16 * l.fuel + 6

abbrev pub decreases-new_of : goal.decreases-new_of
decreases-new_of l = 16 * l.fuel + 7

abbrev pub decreases-big_after : goal.decreases-big_after
decreases-big_after l = 16 * l.fuel + 5

abbrev pub decreases-primary_of : goal.decreases-primary_of
decreases-primary_of l = 16 * l.fuel + 8

abbrev pub decreases-named_suffix_of : goal.decreases-named_suffix_of
decreases-named_suffix_of l = 16 * l.fuel + 6

abbrev pub decreases-index_suffix_of : goal.decreases-index_suffix_of
decreases-index_suffix_of l = 16 * l.fuel + 4

abbrev pub decreases-suffix_of : goal.decreases-suffix_of
decreases-suffix_of l = 16 * l.fuel + 7

abbrev pub decreases-suffixes_of : goal.decreases-suffixes_of
decreases-suffixes_of l = 16 * l.fuel + 8

abbrev pub decreases-choice_of : goal.decreases-choice_of
decreases-choice_of l = 16 * l.fuel + 4

abbrev pub decreases-infix_after : goal.decreases-infix_after
decreases-infix_after l = 16 * l.fuel + 5

abbrev pub decreases-tail_of : goal.decreases-tail_of
decreases-tail_of l = 16 * l.fuel + 6

abbrev pub decreases-expression_after : goal.decreases-expression_after
decreases-expression_after l = 16 * l.fuel + 9

abbrev pub decreases-parenthesis_after : goal.decreases-parenthesis_after
decreases-parenthesis_after l = 16 * l.fuel + 10

abbrev pub decreases-parenthesis_of : goal.decreases-parenthesis_of
decreases-parenthesis_of l = 16 * l.fuel + 11

abbrev pub decreases-bracketed_of : goal.decreases-bracketed_of
decreases-bracketed_of l = 16 * l.fuel + 12

abbrev pub invariant-more_of-loop : goal.invariant-more_of-loop
invariant-more_of-loop l = with_front (map expression_view l.expressions.items) (list_at (l.fuel - l.counter) is_comma (lead_at (codes ", ") (expression_at l.fuel)) l.rest) ≡ more_at (expression_at l.fuel) l.fuel l.bytes

abbrev pub invariant-suffixes_of-loop : goal.invariant-suffixes_of-loop
invariant-suffixes_of-loop l = map_at (λ ss. with_suffixes ss (expression_view l.object)) (list_at (l.fuel - l.counter) is_suffix (suffix_at (expression_at l.fuel) l.fuel)) l.rest ≡ suffixes_at (expression_at l.fuel) l.fuel (expression_view l.fn.first) l.bytes
