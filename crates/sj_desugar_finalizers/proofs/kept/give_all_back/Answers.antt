use Rattle.std.proofs.Common.{◌∙◌, ◌+◌, drop, map, ap, subst}
use Rattle.sj_core.specs.Views.{variable_view}
use Rattle.sj_desugar_spec.specs.Finalizers.{give_all_back}
use Rattle.sj_desugar_spec.specs.Spill.{Code, joined}
use Rattle.sj_desugar_forms.specs.Views.{code_view}
use Rattle.sj_desugar_finalizers.proofs.Rows.{give-step}
use Rattle.sj_desugar_finalizers.proofs.kept.give_all_back.Goals as goal

pub loop-variable-preserved : goal.loop-variable-preserved
loop-variable-preserved c = record {
  same_next = ap (λ (w : Code). w.next) (c.in_ok-written.ensures ∙ ap (joined (code_view c.loop-variable.written)) c.in_ok-code.ensures);
  so_far = ap (λ n. joined (code_view c.in_ok-written.written) (give_all_back (map variable_view (drop (c.loop-variable.variable-index + 1) c.args.variables.now)) n c.args.next)) c.in_ok-from.ensures ∙ give-step c.args.variables.now c.loop-variable.variable-index c.variable-item.result (code_view c.loop-variable.written) (code_view c.in_ok-code.code) (code_view c.in_ok-written.written) c.loop-variable.from c.args.next c.loop-variable-test.true c.variable-item.is c.in_ok-code.ensures c.in_ok-written.ensures ∙ c.loop-variable.invariant.so_far;
}
