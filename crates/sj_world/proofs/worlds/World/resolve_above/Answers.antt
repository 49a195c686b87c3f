use Rattle.sj_world.specs.Resolution.{answer}
use Rattle.sj_world.specs.Ancestors.{IsAncestor}
use Rattle.std.proofs.Common.{Contains}
use Rattle.sj_world.proofs.Bodies.{resolves_at, unknown_resolves}
use Rattle.sj_world.proofs.worlds.World.resolve_above.Goals as goal

pub returns-in-Some : goal.returns-in-Some
returns-in-Some c = resolves_at c.args.self.now c.args.method.now (Contains c.in-Some.ancestors.now) (IsAncestor c.args.self.now c.args.class.now) (λ n h. (c.in-Some.ensures.1.exact n).0 h) (λ n a. (c.in-Some.ensures.1.exact n).1 a) (answer c.resolve_among.result) c.resolve_among.ensures

pub returns-in-None : goal.returns-in-None
returns-in-None c = unknown_resolves c.args.self.now c.args.class.now c.in-None.ensures c.args.method.now
