use Rattle.std.proofs.Common.{take, map}
use Rattle.sj_emit_class_spec.specs.Classes.{AreReached}
use Rattle.sj_emit_class.proofs.statics.reached_among.Given as goal

abbrev pub invariant-loop-field : goal.invariant-loop-field
invariant-loop-field l = AreReached l.w.facts l.class (take l.field-index l.fields) (map (λ f. f.now) l.reached.items)
