use Rattle.std.proofs.Common.{◌≡◌, []}
use Rattle.sj_emit_class_parts.specs.Collecting.{with_uses}
use Rattle.sj_emit_class_parts.proofs.once.once_of.Given as goal

abbrev pub invariant-loop-binding : goal.invariant-loop-binding
invariant-loop-binding l = l.kept.items ≡ with_uses [] l.yielded
