use Rattle.std.proofs.Common.{◌≡◌, ◌∙◌, ◌+◌, ℕ, ℤ, List, OnOk, drop, ap, subst, arith}
use Rattle.sj_trees.specs.Forms.{form_code}
use Rattle.sj_trees.specs.Term.{Cases}
use Rattle.sj_trees.specs.View.{view, cases_view}
use Rattle.sj_write_spec.specs.Fields.{byte}
use Rattle.sj_write_spec.specs.Trees.{term_fields, keys_fields, each_case}
use Rattle.sj_write.specs.TreeFields.{fields_written}
use Rattle.sj_write.specs.Writing.{Writing, put}
use Rattle.sj_write.proofs.TreeFields.{term_by_fields, tree_has_files, case_has_files, other_cases_have_files, field_has_files}
use Rattle.tree_fields.specs.Fields.{FieldTerm, fields_of}
use Rattle.tree_fields.proofs.Items.{size_of_one, case_put}
use Rattle.tree_parts.proofs.Items.{size_of_item, size_of_case}
use Rattle.sj_write.proofs.writer.ClassWriter.+tree.Goals as goal

pub fields_of_tree-field_of_tree-requires : goal.fields_of_tree-field_of_tree-requires
fields_of_tree-field_of_tree-requires t c = (omega (arith, c.decreases, size_of_one c.args.fields.now c.loop-each.each-index c.each-item.result c.loop-each-test.true c.each-item.is), field_has_files c.args.files.now c.args.fields.now c.loop-each.each-index c.each-item.result c.loop-each-test.true c.each-item.is c.loop-each.invariant.1)

pub trees-tree-requires : goal.trees-tree-requires
trees-tree-requires t c = (omega (arith, c.decreases, size_of_item c.args.trees.now c.loop-each.each-index c.each-item.result c.loop-each-test.true c.each-item.is), tree_has_files c.args.files.now c.args.trees.now c.loop-each.each-index c.each-item.result c.loop-each-test.true c.each-item.is c.loop-each.invariant.1)

pub cases-tree-requires : goal.cases-tree-requires
cases-tree-requires t c = (omega (arith, c.decreases, size_of_case c.args.cases.now c.loop-each.each-index c.each-item.result c.loop-each-test.true c.each-item.is), case_has_files c.args.files.now c.args.cases.now c.loop-each.each-index c.each-item.result c.loop-each-test.true c.each-item.is c.loop-each.invariant.1)

pub cases-loop-each-preserved : goal.cases-loop-each-preserved
cases-loop-each-preserved t c =
    let files = c.args.files.now in
    let cs = c.args.cases.now in
    let one = case_put (λ (ds : Cases). put (each_case files ds) c.loop-each.self) cs c.loop-each.each-index c.each-item.result c.loop-each-test.true c.each-item.is in
    let keys = c.in_ok-keys.ensures ∙ ap (λ (ks : List ℤ). put (keys_fields ks) c.loop-each.self) c.as_slice.ensures in
    let made = c.in_ok-tree.ensures ∙ ap (put (term_fields files (view c.each-item.result.body))) keys in
    (ap (put (each_case files (cases_view (drop (c.loop-each.each-index + 1) cs)))) made ∙ one ∙ c.loop-each.invariant.0, other_cases_have_files files cs c.loop-each.each-index c.each-item.result c.loop-each-test.true c.loop-each.invariant.1)

pub tree-returns : goal.tree-returns
tree-returns t c =
    let files = c.args.files.now in
    let term = view c.args.tree.now in
    let code = c.in_ok-byte.ensures ∙ ap (λ (n : ℕ). put (byte n) c.args.self.now) (c.code.ensures ∙ ap form_code c.form.ensures) in
    let fields = ap (λ (fs : List FieldTerm). put (fields_written files fs) c.byte.new.self) c.fields_in.ensures.fields in
    subst (λ (w : Writing). OnOk c.fields_of_tree.result (c.fields_of_tree.new.self ≡ w)) (fields ∙ ap (put (fields_written files (fields_of term))) code ∙ term_by_fields files term c.args.self.now) c.fields_of_tree.ensures
