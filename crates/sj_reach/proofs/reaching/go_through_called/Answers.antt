use Rattle.std.proofs.lemmas.Result.{on_ok_weaker}
use Rattle.std.proofs.Common.{List}
use Rattle.sj_world.specs.Known.{Name}
use Rattle.sj_reach.specs.Conclusions.{Among}
use Rattle.sj_reach.specs.Steps.{OfDispatch, OfBelow}
use Rattle.sj_reach.proofs.Adding.{adds_then, adds_at}
use Rattle.sj_reach.proofs.reaching.go_through_called.Goals as goal

pub returns-clause-found : goal.returns-clause-found
returns-clause-found c = on_ok_weaker _ (λ _. adds_then _ _ _ _ _ (adds_at (λ (xs : List Name). Among xs (OfDispatch c.args.world.now c.args.method.now)) _ _ _ _ c.at.ensures c.in_ok-dispatch_on_each.ensures) (adds_at (λ (xs : List Name). Among xs (OfBelow c.args.world.now c.args.method.now c.args.class.now)) _ _ _ _ c.requires c.in_ok-dispatch_on_each_below.ensures)) c.see_called.ensures
