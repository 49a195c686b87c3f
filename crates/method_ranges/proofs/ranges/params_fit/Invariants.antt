use Rattle.std.proofs.Common.{take}
use Rattle.std.specs.Prelude.{All}
use Rattle.sj_emit_expr_pieces.specs.Ranges.{AreBytes}
use Rattle.method_ranges.proofs.ranges.params_fit.Given as goal

abbrev pub invariant-loop-param : goal.invariant-loop-param
invariant-loop-param l = All AreBytes (take l.param-index l.params)
