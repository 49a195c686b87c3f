use Rattle.sj_world.specs.Resolution.{IsBody}
use Rattle.sj_world.proofs.Searches.{NoneYet}
use Rattle.sj_world.proofs.members.body_in.Given as goal

abbrev pub invariant-loop-method : goal.invariant-loop-method
invariant-loop-method l = NoneYet (IsBody l.name) l.methods l.method-index
