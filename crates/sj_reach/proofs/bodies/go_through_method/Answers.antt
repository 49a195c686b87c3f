use Rattle.std.proofs.lemmas.Result.{on_ok_weaker}
use Rattle.sj_reach.proofs.Arms.{adds_asked}
use Rattle.sj_reach.proofs.Sight.{sees_asked}
use Rattle.sj_reach.proofs.bodies.go_through_method.Goals as goal

pub returns-clause-found : goal.returns-clause-found
returns-clause-found c = on_ok_weaker _ (λ _. adds_asked c.args.world.now c.args.seen.now _ _ _ _ _ c.in_ok-infos.ensures c.as_slice.ensures c.in_ok-go_through_infos.ensures) c.see_infos.ensures

pub returns-clause-seen : goal.returns-clause-seen
returns-clause-seen c = on_ok_weaker _ (sees_asked _ _ _ _ _ c.in_ok-infos.ensures c.as_slice-2.ensures) c.see_infos.ensures
