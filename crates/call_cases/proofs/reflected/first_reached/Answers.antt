use Rattle.std.proofs.Common.{refl, arith}
use Rattle.std.proofs.lemmas.Option.{slice_get_read}
use Rattle.sj_world.proofs.Bodies.{none_from}
use Rattle.call_cases.proofs.ReflectedSteps.{no_more_reached, none_reached}
use Rattle.call_cases.proofs.reflected.first_reached.Goals as goal

pub loop-name-preserved : goal.loop-name-preserved
loop-name-preserved c = no_more_reached c.args.w.now.world c.args.w.now.facts c.args.class.now c.args.names.now c.loop-name.name-index c.name-item.result c.loop-name.invariant (slice_get_read c.args.names.now _ c.loop-name.name-index c.name-item.result refl (omega arith) c.name-item.is) (none_from c.in_ok-target.target _ _ c.in_ok-target.ensures c.in_default.not-Some)

pub returns : goal.returns
returns c = none_reached c.args.w.now.world c.args.w.now.facts c.args.class.now c.args.names.now c.loop-name.name-index c.loop-name.invariant (omega arith)
