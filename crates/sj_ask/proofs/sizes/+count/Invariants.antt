use Rattle.std.proofs.Common.{◌≡◌, ◌+◌, ◌*◌, drop}
use Rattle.sj_trees.specs.View.{view, terms_view, cases_view}
use Rattle.tree_parts.specs.Sizes.{size, size_of_all, size_of_cases}
use Rattle.sj_ask.specs.Sizes.{counted_all, counted_cases}
use Rattle.sj_ask.proofs.sizes.+count.Given as goal

abbrev pub invariant-count_all-loop-each : goal.invariant-count_all-loop-each
invariant-count_all-loop-each l = counted_all (terms_view (drop l.each-index l.trees)) l.counted ≡ counted_all (terms_view l.trees) l.fn.before

abbrev pub invariant-count_cases-loop-each : goal.invariant-count_cases-loop-each
invariant-count_cases-loop-each l = counted_cases (cases_view (drop l.each-index l.cases)) l.counted ≡ counted_cases (cases_view l.cases) l.fn.before

abbrev pub decreases-count : goal.decreases-count
decreases-count l = 2 * size (view l.tree.now)

abbrev pub decreases-count_all : goal.decreases-count_all
decreases-count_all l = 2 * size_of_all (terms_view l.trees.now) + 1

abbrev pub decreases-count_cases : goal.decreases-count_cases
decreases-count_cases l = 2 * size_of_cases (cases_view l.cases.now) + 1
