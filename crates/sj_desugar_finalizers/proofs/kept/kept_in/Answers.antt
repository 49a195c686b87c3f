use Rattle.std.proofs.Common.{◌∙◌, ℕ, List, [], map, ap, sym, if◌then◌else◌}
use Rattle.std.specs.List.{flat_map}
use Rattle.sj_core.specs.Terms.{Variable}
use Rattle.sj_core.specs.Views.{variable_view}
use Rattle.sj_desugar_spec.specs.Desugar.{target_of}
use Rattle.sj_desugar_spec.specs.Finalizers.{each_once, left_labels, variables_in}
use Rattle.sj_desugar_forms.specs.Views.{destination_view, target_view}
use Rattle.sj_desugar_finalizers.proofs.Once.{label-more, label-end}
use Rattle.sj_desugar_finalizers.proofs.kept.kept_in.Goals as goal
use Rattle.sj_trees.specs.View.{view}

pub loop-label-preserved : goal.loop-label-preserved
loop-label-preserved c =
    label-more c.deref-label-items.result.now (λ x. x.now) (target_of (map target_view c.args.targets.now)) c.loop-label.label-index c.label-item.result (map variable_view c.loop-label.kept.items) (map variable_view c.add_destination.new.kept.items) (destination_view c.in_ok-goes_to.goes_to) c.loop-label-test.true c.label-item.is c.in_ok-goes_to.ensures c.in_ok-add_destination.ensures
    ∙ c.loop-label.invariant

pub returns : goal.returns
returns c =
    let goes_to = target_of (map target_view c.args.targets.now) in
    let all : List (List ℕ) → List Variable = λ ls. each_once [] (flat_map (λ l. variables_in (goes_to l)) ls) in
    label-end c.deref-label-items.result.now (λ x. x.now) goes_to c.loop-label.label-index (map variable_view c.loop-label.kept.items) c.loop-label-test.false
    ∙ c.loop-label.invariant
    ∙ ap all (ap (map (λ x. x.now)) c.deref-label-items.ensures.value ∙ c.in_ok-labels.ensures)
    ∙ sym (ap (λ b. if b then all (left_labels [] (view c.args.finalizer.now)) else []) (sym c.holds_finally.ensures ∙ c.if-not-holds_finally.false))
