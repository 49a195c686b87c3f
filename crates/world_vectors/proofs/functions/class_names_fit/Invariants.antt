use Rattle.std.proofs.Common.{take}
use Rattle.std.specs.Prelude.{All}
use Rattle.sj_emit_expr_pieces.specs.Ranges.{AreBytes}
use Rattle.world_vectors.proofs.functions.class_names_fit.Given as goal

abbrev pub invariant-loop-class : goal.invariant-loop-class
invariant-loop-class l = All (λ c. AreBytes c.name) (take l.class-index l.classes)
