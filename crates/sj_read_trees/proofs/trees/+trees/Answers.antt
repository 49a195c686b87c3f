use Rattle.std.proofs.Common.{◌≡◌, ◌++◌, ◌∷◌, [], map}
use Rattle.std.proofs.lemmas.Result.{err_from_is_err_and}
use Rattle.std.proofs.lemmas.List.{map_push}
use Rattle.sj_trees.specs.View.{view, view_case}
use Rattle.sj_read_spec.specs.Reading.{many_at}
use Rattle.sj_read_spec.specs.Trees.{tree_at, case_at}
use Rattle.sj_trees.specs.declared.forms.Form.TheVariants.{Leaf, Statement, Branch, Call, Operation}
use Rattle.sj_read_trees.proofs.ManyLemmas.{goes_on, ends, is_done}
use Rattle.sj_read_trees.proofs.TreeLemmas.{tag_stops, position_stops, form_found}
use Rattle.sj_read_trees.proofs.trees.+trees.Goals as goal

pub trees_of-returns-in_err-tree : goal.trees_of-returns-in_err-tree
trees_of-returns-in_err-tree t c =
    let p = err_from_is_err_and c.from_residual.result c.from_residual.ensures.1 in
    rw (p.1, p.2) (ends (tree_at c.args.depth c.args.tables.now) c.in_err-tree.field-0.0 (map view c.loop.trees.items) c.args.count c.loop.counter c.loop.rest.now (many_at (tree_at c.args.depth c.args.tables.now) c.args.count c.args.bytes.now) c.loop-test.true c.in_err-tree.ensures c.loop.invariant)

pub trees_of-loop-preserved : goal.trees_of-loop-preserved
trees_of-loop-preserved t c =
    let n = c.in_ok-tree.tree in
    let e : map view c.push.new.self.items ≡ map view c.loop.trees.items ++ view n ∷ [] = rw c.in_ok-push.ensures.items (map_push _ c.loop.trees.items n) in
    rw e (goes_on (tree_at c.args.depth c.args.tables.now) (map view c.loop.trees.items) c.args.count c.loop.counter c.loop.rest.now (view n) c.in_ok-tree.after.now (many_at (tree_at c.args.depth c.args.tables.now) c.args.count c.args.bytes.now) c.loop-test.true c.in_ok-tree.ensures c.loop.invariant)

pub trees_of-returns : goal.trees_of-returns
trees_of-returns t c = is_done (tree_at c.args.depth c.args.tables.now) (map view c.loop.trees.items) c.args.count c.loop.counter c.loop.rest.now (many_at (tree_at c.args.depth c.args.tables.now) c.args.count c.args.bytes.now) c.loop-test.false c.loop.invariant

pub cases_of-returns-in_err-case : goal.cases_of-returns-in_err-case
cases_of-returns-in_err-case t c =
    let p = err_from_is_err_and c.from_residual.result c.from_residual.ensures.1 in
    rw (p.1, p.2) (ends (case_at (tree_at c.args.depth c.args.tables.now)) c.in_err-case.field-0.0 (map view_case c.loop.cases.items) c.args.count c.loop.counter c.loop.rest.now (many_at (case_at (tree_at c.args.depth c.args.tables.now)) c.args.count c.args.bytes.now) c.loop-test.true c.in_err-case.ensures c.loop.invariant)

pub cases_of-loop-preserved : goal.cases_of-loop-preserved
cases_of-loop-preserved t c =
    let n = c.in_ok-case.case in
    let e : map view_case c.push.new.self.items ≡ map view_case c.loop.cases.items ++ view_case n ∷ [] = rw c.in_ok-push.ensures.items (map_push _ c.loop.cases.items n) in
    rw e (goes_on (case_at (tree_at c.args.depth c.args.tables.now)) (map view_case c.loop.cases.items) c.args.count c.loop.counter c.loop.rest.now (view_case n) c.in_ok-case.after.now (many_at (case_at (tree_at c.args.depth c.args.tables.now)) c.args.count c.args.bytes.now) c.loop-test.true c.in_ok-case.ensures c.loop.invariant)

pub cases_of-returns : goal.cases_of-returns
cases_of-returns t c = is_done (case_at (tree_at c.args.depth c.args.tables.now)) (map view_case c.loop.cases.items) c.args.count c.loop.counter c.loop.rest.now (many_at (case_at (tree_at c.args.depth c.args.tables.now)) c.args.count c.args.bytes.now) c.loop-test.false c.loop.invariant

pub tree_of-returns-in_err-tag : goal.tree_of-returns-in_err-tag
tree_of-returns-in_err-tag t c =
    let p = err_from_is_err_and c.from_residual-in_err-tag.result c.from_residual-in_err-tag.ensures.1 in
    rw (p.1, p.2) (tag_stops c.args.depth c.args.tables.now c.args.bytes.now c.in_err-tag.field-0.0 c.if-depth-eq0.false c.in_err-tag.ensures)

pub tree_of-returns-in_err-position : goal.tree_of-returns-in_err-position
tree_of-returns-in_err-position t c =
    let p = err_from_is_err_and c.from_residual-in_err-position.result c.from_residual-in_err-position.ensures.1 in
    rw (p.1, p.2) (position_stops c.args.depth c.args.tables.now c.args.bytes.now c.in_ok-tag.tag c.in_ok-tag.rest.now c.file_count.result c.in_err-position.field-0.0 c.if-depth-eq0.false c.in_ok-tag.ensures c.file_count.ensures c.in_err-position.ensures)

pub tree_of-returns-in-Leaf : goal.tree_of-returns-in-Leaf
tree_of-returns-in-Leaf t c = rw (form_found c.args.depth c.args.tables.now c.args.bytes.now c.in_ok-tag.tag c.in_ok-tag.rest.now c.file_count.result c.in_ok-position.position c.in_ok-position.rest.now (Leaf c.in-Leaf.tag) c.if-depth-eq0.false c.in_ok-tag.ensures c.file_count.ensures c.in_ok-position.ensures c.in-Leaf.is) c.leaf_of.ensures

pub tree_of-returns-in-Statement : goal.tree_of-returns-in-Statement
tree_of-returns-in-Statement t c = rw (form_found c.args.depth c.args.tables.now c.args.bytes.now c.in_ok-tag.tag c.in_ok-tag.rest.now c.file_count.result c.in_ok-position.position c.in_ok-position.rest.now (Statement c.in-Statement.tag) c.if-depth-eq0.false c.in_ok-tag.ensures c.file_count.ensures c.in_ok-position.ensures c.in-Statement.is) c.statement_of.ensures

pub tree_of-returns-in-Branch : goal.tree_of-returns-in-Branch
tree_of-returns-in-Branch t c = rw (form_found c.args.depth c.args.tables.now c.args.bytes.now c.in_ok-tag.tag c.in_ok-tag.rest.now c.file_count.result c.in_ok-position.position c.in_ok-position.rest.now (Branch c.in-Branch.tag) c.if-depth-eq0.false c.in_ok-tag.ensures c.file_count.ensures c.in_ok-position.ensures c.in-Branch.is) c.branch_of.ensures

pub tree_of-returns-in-Call : goal.tree_of-returns-in-Call
tree_of-returns-in-Call t c = rw (form_found c.args.depth c.args.tables.now c.args.bytes.now c.in_ok-tag.tag c.in_ok-tag.rest.now c.file_count.result c.in_ok-position.position c.in_ok-position.rest.now (Call c.in-Call.tag) c.if-depth-eq0.false c.in_ok-tag.ensures c.file_count.ensures c.in_ok-position.ensures c.in-Call.is) c.call_of.ensures

pub tree_of-returns-in-Operation : goal.tree_of-returns-in-Operation
tree_of-returns-in-Operation t c = rw (form_found c.args.depth c.args.tables.now c.args.bytes.now c.in_ok-tag.tag c.in_ok-tag.rest.now c.file_count.result c.in_ok-position.position c.in_ok-position.rest.now (Operation c.in-Operation.tag) c.if-depth-eq0.false c.in_ok-tag.ensures c.file_count.ensures c.in_ok-position.ensures c.in-Operation.is) c.operation_of.ensures
