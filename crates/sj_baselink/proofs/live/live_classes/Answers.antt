use Rattle.std.proofs.Common.{Contains, refl, arith}
use Rattle.std.proofs.lemmas.Option.{slice_get_read}
use Rattle.sj_baselink.proofs.Putting.{begins_empty, each_goes_on, only_these}
use Rattle.sj_baselink.proofs.live.live_classes.Goals as goal

pub loop-class-init : goal.loop-class-init
loop-class-init c = begins_empty _ _ _ c.new-live.ensures.empty

pub loop-class-preserved : goal.loop-class-preserved
loop-class-preserved c = each_goes_on Contains _ c.args.made.now c.loop-class.class-index c.class-item.result _ _ _ (slice_get_read c.args.made.now _ c.loop-class.class-index c.class-item.result refl (omega arith) c.class-item.is) c.loop-class.invariant c.in_ok-put_chain.ensures

pub returns : goal.returns
returns c = only_these _ c.args.made.now c.loop-class.class-index _ (omega arith) c.loop-class.invariant
