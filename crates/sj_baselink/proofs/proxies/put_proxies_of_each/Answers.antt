use Rattle.std.proofs.Common.{Contains, refl, arith}
use Rattle.std.proofs.lemmas.Option.{slice_get_read}
use Rattle.sj_baselink.proofs.Putting.{each_begins, each_goes_on, each_ends}
use Rattle.sj_baselink.proofs.proxies.put_proxies_of_each.Goals as goal

pub loop-class-init : goal.loop-class-init
loop-class-init c = each_begins Contains _ _ _

pub loop-class-preserved : goal.loop-class-preserved
loop-class-preserved c = each_goes_on Contains _ c.args.classes.now c.loop-class.class-index c.class-item.result _ _ _ (slice_get_read c.args.classes.now _ c.loop-class.class-index c.class-item.result refl (omega arith) c.class-item.is) c.loop-class.invariant c.in_ok-put_proxies_of.ensures

pub returns : goal.returns
returns c = each_ends Contains _ c.args.classes.now c.loop-class.class-index _ _ (omega arith) c.loop-class.invariant
