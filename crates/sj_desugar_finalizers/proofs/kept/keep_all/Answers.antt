use Rattle.std.proofs.Common.{◌∙◌}
use Rattle.sj_desugar_forms.specs.Views.{code_view}
use Rattle.sj_desugar_finalizers.proofs.Rows.{keep-step}
use Rattle.sj_desugar_finalizers.proofs.kept.keep_all.Goals as goal

pub loop-variable-preserved : goal.loop-variable-preserved
loop-variable-preserved c = keep-step c.args.variables.now c.loop-variable.variable-index c.variable-item.result (code_view c.loop-variable.written) (code_view c.in_ok-code.code) (code_view c.in_ok-written.written) c.loop-variable-test.true c.variable-item.is c.in_ok-code.ensures c.in_ok-written.ensures ∙ c.loop-variable.invariant
