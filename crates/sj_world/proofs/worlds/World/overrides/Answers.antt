use Rattle.std.proofs.Common.{rules}
use Rattle.sj_world.proofs.Subtyped.{failed}
use Rattle.sj_world.proofs.Bodies.{override_tested}
use Rattle.sj_world.proofs.worlds.World.overrides.Goals as goal

pub returns : goal.returns
returns c = override_tested c.args.self.now c.args.method.now c.args.name.now (λ f. f.method.now) (λ f. f.owner.now) c.args.other.now c.default_at.result c.is_some.result c.is_some.ensures c.default_at.ensures (failed c.is_same.result c.is_same.ensures.same c.if-is_same.false) (c.is_ancestor.ensures.0 (search rules))
