use Rattle.std.proofs.Common.{take}
use Rattle.sj_emit_class_spec.specs.Classes.{AreInstances}
use Rattle.sj_emit_class.proofs.instances.instances_among.Given as goal

abbrev pub invariant-loop-kind : goal.invariant-loop-kind
invariant-loop-kind l = AreInstances l.world l.class (take l.kind-index l.kinds) l.found.items
