use Rattle.std.proofs.Common.{◌≡◌, ◌∷◌, [], ◌++◌, codes, map, eqb, sym, arith}
use Rattle.std.proofs.lemmas.Result.{err_from_is_err_and}
use Rattle.std.proofs.lemmas.List.{map_push}
use Rattle.exact_place.specs.Reading.{lead_at, list_at}
use Rattle.sj_trees.specs.View.{view, view_case}
use Rattle.sj_text_spec.specs.Reading.{tree_at, case_at}
use Rattle.text_scan.proofs.Loops.{list_goes, list_fails, list_stops, list_out}
use Rattle.sj_text.proofs.TreeSteps.{tree_none, tree_level_read}
use Rattle.sj_text.proofs.trees.+trees.Goals as goal

pub tree_of-returns-then-fuel-eq0 : goal.tree_of-returns-then-fuel-eq0
tree_of-returns-then-fuel-eq0 t c = tree_none c.args.fuel c.args.bytes.now c.if-fuel-eq0.true

pub tree_of-returns : goal.tree_of-returns
tree_of-returns t c = rw (tree_level_read c.args.fuel c.args.bytes.now c.if-fuel-eq0.false) c.level_of.ensures

pub more_trees_of-returns-then-not-next_is : goal.more_trees_of-returns-then-not-next_is
more_trees_of-returns-then-not-next_is t c = list_stops (λ c. eqb c 32) (lead_at (codes " ") (tree_at c.args.fuel)) (map view c.loop.trees.items) c.args.fuel c.loop.counter c.loop.rest.now (list_at c.args.fuel (λ c. eqb c 32) (lead_at (codes " ") (tree_at c.args.fuel)) c.args.bytes.now) (omega arith) (sym c.if-not-next_is.ensures) c.loop.invariant

pub more_trees_of-returns-in_err-tree : goal.more_trees_of-returns-in_err-tree
more_trees_of-returns-in_err-tree t c =
    let p = err_from_is_err_and c.from_residual.result c.from_residual.ensures.1 in
    rw (p.1, p.2) (list_fails (λ c. eqb c 32) (lead_at (codes " ") (tree_at c.args.fuel)) c.in_err-tree.field-0.0 (map view c.loop.trees.items) c.args.fuel c.loop.counter c.loop.rest.now (list_at c.args.fuel (λ c. eqb c 32) (lead_at (codes " ") (tree_at c.args.fuel)) c.args.bytes.now) c.loop-test.true (sym c.if-not-next_is.ensures) c.in_err-tree.ensures c.loop.invariant)

pub more_trees_of-loop-preserved : goal.more_trees_of-loop-preserved
more_trees_of-loop-preserved t c =
    let n = c.in_ok-tree.tree in
    let e : map view c.push.new.self.items ≡ map view c.loop.trees.items ++ view n ∷ [] = rw c.in_ok-push.ensures.items (map_push _ c.loop.trees.items n) in
    rw e (list_goes (λ c. eqb c 32) (lead_at (codes " ") (tree_at c.args.fuel)) (map view c.loop.trees.items) c.args.fuel c.loop.counter c.loop.rest.now (view n) c.in_ok-tree.after.now (list_at c.args.fuel (λ c. eqb c 32) (lead_at (codes " ") (tree_at c.args.fuel)) c.args.bytes.now) c.loop-test.true (sym c.if-not-next_is.ensures) c.in_ok-tree.ensures c.loop.invariant)

pub more_trees_of-returns : goal.more_trees_of-returns
more_trees_of-returns t c = list_out (λ c. eqb c 32) (lead_at (codes " ") (tree_at c.args.fuel)) (map view c.loop.trees.items) c.args.fuel c.loop.counter c.loop.rest.now (list_at c.args.fuel (λ c. eqb c 32) (lead_at (codes " ") (tree_at c.args.fuel)) c.args.bytes.now) (omega arith) c.loop.invariant

pub more_cases_of-returns-then-not-next_is : goal.more_cases_of-returns-then-not-next_is
more_cases_of-returns-then-not-next_is t c = list_stops (λ c. eqb c 32) (lead_at (codes " ") (case_at (tree_at c.args.fuel) c.args.fuel)) (map view_case c.loop.cases.items) c.args.fuel c.loop.counter c.loop.rest.now (list_at c.args.fuel (λ c. eqb c 32) (lead_at (codes " ") (case_at (tree_at c.args.fuel) c.args.fuel)) c.args.bytes.now) (omega arith) (sym c.if-not-next_is.ensures) c.loop.invariant

pub more_cases_of-returns-in_err-case : goal.more_cases_of-returns-in_err-case
more_cases_of-returns-in_err-case t c =
    let p = err_from_is_err_and c.from_residual.result c.from_residual.ensures.1 in
    rw (p.1, p.2) (list_fails (λ c. eqb c 32) (lead_at (codes " ") (case_at (tree_at c.args.fuel) c.args.fuel)) c.in_err-case.field-0.0 (map view_case c.loop.cases.items) c.args.fuel c.loop.counter c.loop.rest.now (list_at c.args.fuel (λ c. eqb c 32) (lead_at (codes " ") (case_at (tree_at c.args.fuel) c.args.fuel)) c.args.bytes.now) c.loop-test.true (sym c.if-not-next_is.ensures) c.in_err-case.ensures c.loop.invariant)

pub more_cases_of-loop-preserved : goal.more_cases_of-loop-preserved
more_cases_of-loop-preserved t c =
    let n = c.in_ok-case.case in
    let e : map view_case c.push.new.self.items ≡ map view_case c.loop.cases.items ++ view_case n ∷ [] = rw c.in_ok-push.ensures.items (map_push _ c.loop.cases.items n) in
    rw e (list_goes (λ c. eqb c 32) (lead_at (codes " ") (case_at (tree_at c.args.fuel) c.args.fuel)) (map view_case c.loop.cases.items) c.args.fuel c.loop.counter c.loop.rest.now (view_case n) c.in_ok-case.after.now (list_at c.args.fuel (λ c. eqb c 32) (lead_at (codes " ") (case_at (tree_at c.args.fuel) c.args.fuel)) c.args.bytes.now) c.loop-test.true (sym c.if-not-next_is.ensures) c.in_ok-case.ensures c.loop.invariant)

pub more_cases_of-returns : goal.more_cases_of-returns
more_cases_of-returns t c = list_out (λ c. eqb c 32) (lead_at (codes " ") (case_at (tree_at c.args.fuel) c.args.fuel)) (map view_case c.loop.cases.items) c.args.fuel c.loop.counter c.loop.rest.now (list_at c.args.fuel (λ c. eqb c 32) (lead_at (codes " ") (case_at (tree_at c.args.fuel) c.args.fuel)) c.args.bytes.now) (omega arith) c.loop.invariant
