use Rattle.std.proofs.Common.{refl, arith}
use Rattle.std.proofs.lemmas.Option.{slice_get_read}
use Rattle.sj_world.proofs.Kept.{bodies_begin, bodies_go_on, bodies_end}
use Rattle.sj_world.proofs.facts.bodies_of.Goals as goal

pub loop-fact-init : goal.loop-fact-init
loop-fact-init c = bodies_begin _ _ c.new-bodies.ensures.empty

pub loop-fact-preserved : goal.loop-fact-preserved
loop-fact-preserved c = bodies_go_on c.args.facts.now c.loop-fact.fact-index c.fact-item.result _ _ (slice_get_read c.args.facts.now _ c.loop-fact.fact-index c.fact-item.result refl (omega arith) c.fact-item.is) c.loop-fact.invariant c.in_ok-put_body.ensures

pub returns : goal.returns
returns c = bodies_end c.args.facts.now c.loop-fact.fact-index _ (omega arith) c.loop-fact.invariant
