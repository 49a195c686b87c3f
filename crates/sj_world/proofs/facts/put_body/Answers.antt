use Rattle.sj_world.proofs.Kept.{puts_body}
use Rattle.sj_world.proofs.facts.put_body.Goals as goal

pub returns-in_ok-insert-in-Body : goal.returns-in_ok-insert-in-Body
returns-in_ok-insert-in-Body c = puts_body c.args.fact.now c.in-Body.member c.in_ok-copied-in-Body.field-0 _ _ c.in-Body.is c.in_ok-copied-in-Body.ensures c.in_ok-insert-in-Body.ensures.keys
