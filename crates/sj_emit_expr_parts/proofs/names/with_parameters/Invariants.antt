use Rattle.std.proofs.Common.{◌≡◌, ◌++◌, drop}
use Rattle.sj_emit_expr_spec.specs.Templates.{parameter_names}
use Rattle.sj_emit_expr_parts.proofs.names.with_parameters.Given as goal

abbrev pub invariant-loop-param : goal.invariant-loop-param
invariant-loop-param l = l.texts.items ++ parameter_names (drop l.param-index l.params) ≡ l.fn.front.items ++ parameter_names l.params
