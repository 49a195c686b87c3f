use Rattle.std.proofs.Common.{take}
use Rattle.std.specs.Prelude.{All}
use Rattle.sj_emit_class_printing.specs.Fits.{FitReflected}
use Rattle.sj_emit_class_parts.specs.Cases.{reflected_view}
use Rattle.call_cases.proofs.reflected.reflected_fit.Given as goal

abbrev pub invariant-loop-reflected : goal.invariant-loop-reflected
invariant-loop-reflected l = All (λ x. FitReflected (reflected_view x)) (take l.reflected-index l.cases)
