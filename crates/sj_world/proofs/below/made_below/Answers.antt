use Rattle.std.proofs.Common.{refl, arith}
use Rattle.std.proofs.lemmas.Option.{slice_get_read}
use Rattle.sj_world.proofs.Kept.{made_begin, made_go_on, made_end}
use Rattle.sj_world.proofs.below.made_below.Goals as goal

pub loop-fact-init : goal.loop-fact-init
loop-fact-init c = made_begin _ _ _ c.new-below.ensures

pub loop-fact-preserved : goal.loop-fact-preserved
loop-fact-preserved c = made_go_on _ c.args.facts.now c.loop-fact.fact-index c.fact-item.result _ _ (slice_get_read c.args.facts.now _ c.loop-fact.fact-index c.fact-item.result refl (omega arith) c.fact-item.is) c.loop-fact.invariant c.in_ok-put_made.ensures

pub returns : goal.returns
returns c = made_end _ c.args.facts.now c.loop-fact.fact-index _ (omega arith) c.loop-fact.invariant
