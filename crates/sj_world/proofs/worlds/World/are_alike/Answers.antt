use Rattle.sj_world.proofs.Subtyped.{alike_tested}
use Rattle.sj_world.proofs.worlds.World.are_alike.Goals as goal

pub returns-then-sub-above : goal.returns-then-sub-above
returns-then-sub-above c = alike_tested c.args.self.now c.args.sub.now c.args.above.now c.is_sub_base.result c.is_sub_base.ensures c.if-sub-above.true
