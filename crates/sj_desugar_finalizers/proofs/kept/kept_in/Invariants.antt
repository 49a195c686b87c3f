use Rattle.std.proofs.Common.{◌≡◌, [], ◌++◌, drop, map}
use Rattle.std.specs.List.{flat_map}
use Rattle.sj_core.specs.Views.{variable_view}
use Rattle.sj_desugar_spec.specs.Desugar.{target_of}
use Rattle.sj_desugar_spec.specs.Finalizers.{each_once, variables_in}
use Rattle.sj_desugar_forms.specs.Views.{target_view}
use Rattle.sj_desugar_finalizers.proofs.kept.kept_in.Given as goal

abbrev pub invariant-loop-label : goal.invariant-loop-label
invariant-loop-label l = map variable_view l.kept.items ++ each_once (map variable_view l.kept.items) (flat_map (λ x. variables_in (target_of (map target_view l.targets) x)) (map (λ x. x.now) (drop l.label-index l.label-items))) ≡ each_once [] (flat_map (λ x. variables_in (target_of (map target_view l.targets) x)) (map (λ x. x.now) l.label-items))
