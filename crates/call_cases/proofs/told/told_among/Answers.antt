use Rattle.std.proofs.Common.{List, [], map, sym, subst}
use Rattle.sj_emit_class_spec.specs.Dispatch.{AreTold, told_none}
use Rattle.sj_emit_class_parts.specs.Cases.{told_view}
use Rattle.sj_emit_class_parts.specs.declared.dispatch.Told.{Told}
use Rattle.call_cases.proofs.told.told_among.Goals as goal

pub loop-kind-init : goal.loop-kind-init
loop-kind-init c = subst (λ (ts : List Told). AreTold c.args.w.now.world c.args.w.now.facts c.args.method.now [] (map told_view ts)) (sym c.new-cases.ensures.items) told_none
