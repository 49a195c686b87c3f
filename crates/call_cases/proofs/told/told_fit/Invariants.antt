use Rattle.std.proofs.Common.{take}
use Rattle.std.specs.Prelude.{All}
use Rattle.sj_emit_class_printing.specs.Fits.{FitTold}
use Rattle.sj_emit_class_parts.specs.Cases.{told_view}
use Rattle.call_cases.proofs.told.told_fit.Given as goal

abbrev pub invariant-loop-told : goal.invariant-loop-told
invariant-loop-told l = All (λ x. FitTold (told_view x)) (take l.told-index l.cases)
