use Rattle.std.proofs.Common.{◌≡◌, ◌∙◌, IfOk, ap, sym, subst}
use Rattle.sj_core.specs.Terms.{test_of, cast_of}
use Rattle.sj_core.specs.Views.{expression_view}
use Rattle.sj_desugar_spec.specs.Coercions.{coerced}
use Rattle.sj_desugar_spec.specs.Desugar.{expression_of}
use Rattle.sj_desugar_spec.specs.Plain.{is_among}
use Rattle.sj_desugar_plain.proofs.expressions.+expression.Goals as goal
use Rattle.sj_trees.specs.Term.{Term, is_instance_of, as_instance_of}
use Rattle.sj_trees.specs.TypeOf.{type_of_term}
use Rattle.sj_trees.specs.View.{view, view_step, case_step, Case}
use Rattle.sj_trees.specs.declared.trees.Tree.{Tree}
use Rattle.sj_trees.specs.declared.trees.Tree.TheFolds.{fold-roll-Tree}
use Rattle.sj_trees.specs.declared.trees.Tree.TheOpen.{Tree-F}
use Rattle.sj_trees.specs.declared.trees.Tree.TheVariants.{rolls-IsInstanceOf, rolls-AsInstanceOf}
use Rattle.sj_trees.specs.declared.types.IrType.TheVariants.{Any}

pub expression_of-returns-in_ok-value-in-IsInstanceOf : goal.expression_of-returns-in_ok-value-in-IsInstanceOf
expression_of-returns-in_ok-value-in-IsInstanceOf t c =
    let n = c.in-IsInstanceOf in
    let s = is_among c.args.sure.now in
    let whole : view c.args.tree.now ≡ is_instance_of n.position (view n.value.value) n.tpe = ap view (n.is ∙ sym (rolls-IsInstanceOf n.position n.value n.tpe)) ∙ fold-roll-Tree Term Case view_step case_step (Tree-F.IsInstanceOf n.position n.value n.tpe) in
    let part : expression_view c.in_ok-value-in-IsInstanceOf.value.value ≡ coerced Any (type_of_term (view n.value.value)) (expression_of s (view n.value.value)) = subst (λ (x : Tree). expression_view c.in_ok-value-in-IsInstanceOf.value.value ≡ coerced Any (type_of_term (view x)) (expression_of s (view x))) c.deref-in-IsInstanceOf.ensures c.in_ok-value-in-IsInstanceOf.ensures in
    subst (λ e. IfOk c.tested.result (λ x. expression_view x ≡ e)) (ap (test_of n.tpe) part ∙ sym (ap (expression_of s) whole)) c.tested.ensures

pub expression_of-returns-in_ok-value-in-AsInstanceOf : goal.expression_of-returns-in_ok-value-in-AsInstanceOf
expression_of-returns-in_ok-value-in-AsInstanceOf t c =
    let n = c.in-AsInstanceOf in
    let s = is_among c.args.sure.now in
    let whole : view c.args.tree.now ≡ as_instance_of n.position (view n.value.value) n.tpe = ap view (n.is ∙ sym (rolls-AsInstanceOf n.position n.value n.tpe)) ∙ fold-roll-Tree Term Case view_step case_step (Tree-F.AsInstanceOf n.position n.value n.tpe) in
    let part : expression_view c.in_ok-value-in-AsInstanceOf.value.value ≡ coerced Any (type_of_term (view n.value.value)) (expression_of s (view n.value.value)) = subst (λ (x : Tree). expression_view c.in_ok-value-in-AsInstanceOf.value.value ≡ coerced Any (type_of_term (view x)) (expression_of s (view x))) c.deref-in-AsInstanceOf.ensures c.in_ok-value-in-AsInstanceOf.ensures in
    subst (λ e. IfOk c.cast.result (λ x. expression_view x ≡ e)) (ap (cast_of n.tpe) part ∙ sym (ap (expression_of s) whole)) c.cast.ensures
