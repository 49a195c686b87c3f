use Rattle.std.proofs.Common.{take, map}
use Rattle.sj_emit_class_spec.specs.Dispatch.{AreTold}
use Rattle.sj_emit_class_parts.specs.Cases.{told_view}
use Rattle.call_cases.proofs.told.told_among.Given as goal

abbrev pub invariant-loop-kind : goal.invariant-loop-kind
invariant-loop-kind l = AreTold l.w.world l.w.facts l.method (take l.kind-index l.kinds) (map told_view l.cases.items)
