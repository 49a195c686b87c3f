use Rattle.std.proofs.Common.{ℕ, List, ◌+◌, ◌++◌, drop, map, ap, ◌∙◌, arith, append_assoc}
use Rattle.sj_desugar_spec.specs.Finalizers.{left_labels, cases_left_labels}
use Rattle.sj_desugar_finalizers.proofs.walks.+leaving.Goals as goal
use Rattle.sj_trees.specs.View.{view, cases_view}
use Rattle.tree_parts.proofs.Items.{size_of_item, size_of_case, case_taken}

pub add_all-add-requires : goal.add_all-add-requires
add_all-add-requires t c = (omega (arith, c.decreases, size_of_item c.args.trees.now c.loop-each.each-index c.each-item.result c.loop-each-test.true c.each-item.is), tt)

pub add_cases-add-requires : goal.add_cases-add-requires
add_cases-add-requires t c = (omega (arith, c.decreases, size_of_case c.args.cases.now c.loop-each.each-index c.each-item.result c.loop-each-test.true c.each-item.is), tt)

pub add_cases-loop-each-preserved : goal.add_cases-loop-each-preserved
add_cases-loop-each-preserved t c =
    let inner = map (λ x. x.now) c.args.inner.now in
    ap (λ (xs : List (List ℕ)). xs ++ cases_left_labels inner (cases_view (drop (c.loop-each.each-index + 1) c.args.cases.now))) c.in_ok-add.ensures
    ∙ append_assoc (map (λ x. x.now) c.loop-each.found.items) (left_labels inner (view c.each-item.result.body)) (cases_left_labels inner (cases_view (drop (c.loop-each.each-index + 1) c.args.cases.now)))
    ∙ case_taken (λ cs. map (λ x. x.now) c.loop-each.found.items ++ cases_left_labels inner cs) c.args.cases.now c.loop-each.each-index c.each-item.result c.loop-each-test.true c.each-item.is
    ∙ c.loop-each.invariant
