use Rattle.std.proofs.Common.{take, map}
use Rattle.sj_emit_class_spec.specs.Dispatch.{AreReflected}
use Rattle.sj_emit_class_parts.specs.Cases.{reflected_view}
use Rattle.call_cases.proofs.reflected.reflected_among.Given as goal

abbrev pub invariant-loop-kind : goal.invariant-loop-kind
invariant-loop-kind l = AreReflected l.w.world l.w.facts l.proxy (take l.kind-index l.kinds) (map reflected_view l.cases.items)
