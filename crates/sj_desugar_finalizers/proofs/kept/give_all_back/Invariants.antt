use Rattle.std.proofs.Common.{◌≡◌, drop, map}
use Rattle.sj_core.specs.Views.{variable_view}
use Rattle.sj_desugar_spec.specs.Finalizers.{give_all_back}
use Rattle.sj_desugar_spec.specs.Spill.{joined}
use Rattle.sj_desugar_forms.specs.Views.{code_view}
use Rattle.sj_desugar_finalizers.proofs.kept.give_all_back.Given as goal

abbrev pub invariant-loop-variable : goal.invariant-loop-variable
invariant-loop-variable l = record {
  same_next : l.written.next ≡ l.next;
  so_far : joined (code_view l.written) (give_all_back (map variable_view (drop l.variable-index l.variables)) l.from l.next) ≡ give_all_back (map variable_view l.variables) l.number l.next;
}
