use Rattle.sj_world.specs.Resolution.{by_default, declared, undeclared}
use Rattle.sj_world.proofs.Subtyped.{failed}
use Rattle.sj_world.proofs.worlds.World.resolve_among.Goals as goal

pub returns-in-Some : goal.returns-in-Some
returns-in-Some c = by_default c.in-Some.found.method.now c.in-Some.found.owner.now c.in-Some.ensures

pub returns-in-None : goal.returns-in-None
returns-in-None c = declared c.in-None.ensures (c.is_declared.ensures.0 c.if-is_declared.true)

pub returns-in-None-2 : goal.returns-in-None-2
returns-in-None-2 c = undeclared c.in-None.ensures (failed c.is_declared.result c.is_declared.ensures c.if-is_declared.false)
