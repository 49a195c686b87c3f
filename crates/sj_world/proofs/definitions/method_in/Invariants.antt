use Rattle.sj_world.proofs.Searches.{NoneYet}
use Rattle.sj_world.specs.Members.{IsMethod}
use Rattle.sj_world.proofs.definitions.method_in.Given as goal

abbrev pub invariant-loop-method : goal.invariant-loop-method
invariant-loop-method l = NoneYet (IsMethod l.member) l.methods l.method-index
