use Rattle.sj_world.proofs.Subtyped.{failed}
use Rattle.sj_world.proofs.Bodies.{candidate_is}
use Rattle.sj_world.proofs.worlds.World.candidate.Goals as goal

pub returns : goal.returns
returns c = candidate_is c.args.self.now c.args.method.now c.args.name.now (λ f. f.method.now) (λ f. f.owner.now) c.args.above.now c.default_at.result c.requires (failed c.is_overridden.result c.is_overridden.ensures c.if-is_overridden.false) c.default_at.ensures
