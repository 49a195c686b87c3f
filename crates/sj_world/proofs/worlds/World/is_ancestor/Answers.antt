use Rattle.sj_world.proofs.Subtyped.{ancestor_found}
use Rattle.sj_world.proofs.worlds.World.is_ancestor.Goals as goal

pub returns-in-Some : goal.returns-in-Some
returns-in-Some c = ancestor_found c.args.self.now c.args.below.now c.args.above.now c.in-Some.names.now c.stands_in.result c.in-Some.ensures.1 c.stands_in.ensures
