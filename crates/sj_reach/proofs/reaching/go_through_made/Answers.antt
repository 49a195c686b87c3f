use Rattle.std.proofs.lemmas.Result.{on_ok_weaker}
use Rattle.std.proofs.Common.{List}
use Rattle.sj_names.specs.declared.method_names.MethodName.{MethodName}
use Rattle.sj_reach.specs.Conclusions.{Among}
use Rattle.sj_reach.specs.Steps.{OfProxy}
use Rattle.sj_reach.proofs.Adding.{adds_then, adds_at}
use Rattle.sj_reach.proofs.reaching.go_through_made.Goals as goal

pub returns-clause-found : goal.returns-clause-found
returns-clause-found c = on_ok_weaker _ (λ _. adds_then _ _ _ _ _ c.in_ok-dispatch_from_above.ensures (adds_at (λ (ps : List MethodName). Among ps (λ p. OfProxy c.args.world.now p c.args.class.now)) _ _ _ _ c.as_slice.ensures.keys c.in_ok-reflect_each_on.ensures)) c.see_made.ensures
