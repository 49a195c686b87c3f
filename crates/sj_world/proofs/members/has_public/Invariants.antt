use Rattle.sj_world.specs.Resolution.{IsPublic}
use Rattle.sj_world.proofs.Searches.{NoneYet}
use Rattle.sj_world.proofs.members.has_public.Given as goal

abbrev pub invariant-loop-method : goal.invariant-loop-method
invariant-loop-method l = NoneYet (IsPublic l.name) l.methods l.method-index
