use Rattle.std.proofs.Common.{[]}
use Rattle.sj_baselink.specs.Steps.{Puts}
use Rattle.sj_baselink.proofs.Putting.{OfFirst}
use Rattle.sj_emit_class_needs.specs.Needs.{IsNeedBy}
use Rattle.sj_emit_class_needs.proofs.needs.needs_by.Given as goal

abbrev pub invariant-loop-fact : goal.invariant-loop-fact
invariant-loop-fact l = Puts (OfFirst l.facts l.fact-index (IsNeedBy l.w)) [] l.needs.keys
