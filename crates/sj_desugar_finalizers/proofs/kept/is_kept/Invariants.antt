use Rattle.std.proofs.Common.{◌≡◌, drop, map}
use Rattle.std.specs.List.{list_any}
use Rattle.sj_core.specs.Views.{variable_view}
use Rattle.sj_desugar_spec.specs.Finalizers.{is_same_variable}
use Rattle.sj_desugar_finalizers.proofs.kept.is_kept.Given as goal

abbrev pub invariant-loop-each : goal.invariant-loop-each
invariant-loop-each l = list_any (is_same_variable (variable_view l.variable)) (map variable_view (drop l.each-index l.kept)) ≡ list_any (is_same_variable (variable_view l.variable)) (map variable_view l.kept)
