use Rattle.sj_ask.specs.Stands.{stand_of}
use Rattle.sj_ask.proofs.One.{no_small_body}
use Rattle.sj_ask.proofs.targets.small_body_of.Goals as goal

pub returns-else-is_small_body : goal.returns-else-is_small_body
returns-else-is_small_body c = no_small_body (stand_of c.args.world.now c.args.k.now) c.args.member.now c.in-Some.method.now c.is_small_body.result (rw c.world.ensures at c.in-Some.ensures) c.is_small_body.ensures c.if-is_small_body.false

pub returns-in-None : goal.returns-in-None
returns-in-None c = let none = rw c.world.ensures at c.in-None.ensures in record { none = λ d h. none.none d h.definition }
