use Rattle.std.proofs.Common.{take}
use Rattle.std.specs.Prelude.{All}
use Rattle.sj_emit_expr_pieces.specs.Ranges.{FitsReference}
use Rattle.sj_emit_expr_pieces.proofs.ranges.references_fit.Given as goal

abbrev pub invariant-loop-reference : goal.invariant-loop-reference
invariant-loop-reference l = All FitsReference (take l.reference-index l.references)
