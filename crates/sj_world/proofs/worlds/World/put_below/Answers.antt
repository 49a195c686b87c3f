use Rattle.std.proofs.lemmas.Result.{on_ok_weaker}
use Rattle.sj_world.proofs.Kept.{below_ancestors}
use Rattle.sj_world.proofs.worlds.World.put_below.Goals as goal

pub returns-in-Some : goal.returns-in-Some
returns-in-Some c = on_ok_weaker _ (below_ancestors c.args.self.now c.args.class.now c.in-Some.ancestors.now _ _ c.in-Some.ensures.1) c.put_below_each.ensures
