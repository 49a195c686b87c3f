use Rattle.std.proofs.Common.{◌≡◌, drop, map}
use Rattle.sj_core.specs.Views.{variable_view}
use Rattle.sj_desugar_spec.specs.Finalizers.{keep_all}
use Rattle.sj_desugar_spec.specs.Spill.{joined}
use Rattle.sj_desugar_forms.specs.Views.{code_view}
use Rattle.sj_desugar_finalizers.proofs.kept.keep_all.Given as goal

abbrev pub invariant-loop-variable : goal.invariant-loop-variable
invariant-loop-variable l = joined (code_view l.written) (keep_all (map variable_view (drop l.variable-index l.variables)) l.written.next) ≡ keep_all (map variable_view l.variables) l.number
