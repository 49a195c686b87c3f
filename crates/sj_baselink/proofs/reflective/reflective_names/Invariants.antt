use Rattle.std.proofs.Common.{[]}
use Rattle.sj_baselink.specs.Steps.{Puts, IsReflectiveBy}
use Rattle.sj_baselink.proofs.Putting.{OfFirst}
use Rattle.sj_baselink.proofs.reflective.reflective_names.Given as goal

abbrev pub invariant-loop-fact : goal.invariant-loop-fact
invariant-loop-fact l = Puts (OfFirst l.facts l.fact-index (IsReflectiveBy l.w)) [] l.names.keys
