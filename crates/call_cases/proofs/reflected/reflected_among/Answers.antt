use Rattle.std.proofs.Common.{List, [], map, sym, subst}
use Rattle.sj_emit_class_spec.specs.Dispatch.{AreReflected, reflected_none}
use Rattle.sj_emit_class_parts.specs.Cases.{reflected_view}
use Rattle.sj_emit_class_parts.specs.declared.dispatch.Reflected.{Reflected}
use Rattle.call_cases.proofs.reflected.reflected_among.Goals as goal

pub loop-kind-init : goal.loop-kind-init
loop-kind-init c = subst (λ (ts : List Reflected). AreReflected c.args.w.now.world c.args.w.now.facts c.args.proxy.now [] (map reflected_view ts)) (sym c.new-cases.ensures.items) reflected_none
