use Rattle.std.proofs.Common.{◌+◌, ◌∷◌, ◌++◌, List, drop, map, ap, ◌∙◌, arith, append_assoc}
use Rattle.sj_trees.specs.Term.{Term}
use Rattle.sj_trees.specs.View.{view, cases_view}
use Rattle.tree_parts.proofs.Items.{size_of_item, size_of_case, case_taken}
use Rattle.sj_infos.specs.Trees.{trees, cases_below}
use Rattle.sj_infos.proofs.trees.+adding.Goals as goal

pub add_all-add-requires : goal.add_all-add-requires
add_all-add-requires t c = (omega (arith, c.decreases, size_of_item c.args.trees.now c.loop-tree.tree-index c.tree-item.result c.loop-tree-test.true c.tree-item.is), tt)

pub add_cases-add-requires : goal.add_cases-add-requires
add_cases-add-requires t c = (omega (arith, c.decreases, size_of_case c.args.cases.now c.loop-case.case-index c.case-item.result c.loop-case-test.true c.case-item.is), tt)

pub add_cases-loop-case-preserved : goal.add_cases-loop-case-preserved
add_cases-loop-case-preserved t c =
    ap (λ (xs : List Term). xs ++ cases_below (cases_view (drop (c.loop-case.case-index + 1) c.args.cases.now))) c.in_ok-add.ensures
    ∙ append_assoc (map (λ x. view x.now) c.loop-case.found.items) (trees (view c.case-item.result.body)) (cases_below (cases_view (drop (c.loop-case.case-index + 1) c.args.cases.now)))
    ∙ case_taken (λ cs. map (λ x. view x.now) c.loop-case.found.items ++ cases_below cs) c.args.cases.now c.loop-case.case-index c.case-item.result c.loop-case-test.true c.case-item.is
    ∙ c.loop-case.invariant
