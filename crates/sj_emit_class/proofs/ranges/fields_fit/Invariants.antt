use Rattle.std.proofs.Common.{take}
use Rattle.std.specs.Prelude.{All}
use Rattle.sj_emit_class_printing.specs.Fits.{FitsField}
use Rattle.sj_emit_class.proofs.ranges.fields_fit.Given as goal

abbrev pub invariant-loop-field : goal.invariant-loop-field
invariant-loop-field l = All (λ x. FitsField x.now) (take l.field-index l.fields)
