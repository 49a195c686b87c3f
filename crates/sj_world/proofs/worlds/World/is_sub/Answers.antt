use Rattle.sj_world.proofs.Subtyped.{sub_tested, failed}
use Rattle.sj_world.proofs.worlds.World.is_sub.Goals as goal

pub returns-in_default : goal.returns-in_default
returns-in_default c = sub_tested c.args.self.now c.args.sub.now c.args.above.now c.is_under.result c.is_under.ensures (failed c.is_same.result c.is_same.ensures c.if-is_same.false) c.in_default.not-Nothing
