use Rattle.std.proofs.Common.{◌≡◌, ◌++◌, drop, map}
use Rattle.std.specs.List.{flat_map}
use Rattle.sj_emit_class_spec.specs.Dispatch.{told_uses}
use Rattle.sj_emit_class_parts.specs.Cases.{told_view}
use Rattle.sj_emit_class_parts.proofs.dispatch.told_uses.Given as goal

abbrev pub invariant-loop-case : goal.invariant-loop-case
invariant-loop-case l = l.bindings.items ++ flat_map (told_uses l.method) (map told_view (drop l.case-index l.cases)) ≡ flat_map (told_uses l.method) (map told_view l.cases)
