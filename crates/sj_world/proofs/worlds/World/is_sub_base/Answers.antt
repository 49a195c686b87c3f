use Rattle.sj_world.proofs.Subtyped.{base_tested, failed}
use Rattle.sj_world.proofs.worlds.World.is_sub_base.Goals as goal

pub returns-else-is_same : goal.returns-else-is_same
returns-else-is_same c = base_tested c.args.self.now c.args.sub.now c.args.above.now c.is_class_base_under.result c.is_class_base_under.ensures (failed c.is_same.result c.is_same.ensures c.if-is_same.false)
