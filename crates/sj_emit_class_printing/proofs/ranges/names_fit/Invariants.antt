use Rattle.std.proofs.Common.{take}
use Rattle.std.specs.Prelude.{All}
use Rattle.sj_emit_expr_pieces.specs.Ranges.{AreBytes}
use Rattle.sj_emit_class_printing.proofs.ranges.names_fit.Given as goal

abbrev pub invariant-loop-name : goal.invariant-loop-name
invariant-loop-name l = All AreBytes (take l.name-index l.names)
