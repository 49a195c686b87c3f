use Rattle.std.proofs.Common.{refl, arith}
use Rattle.std.proofs.lemmas.Option.{slice_get_read}
use Rattle.sj_reach.proofs.Adding.{each_begins, each_goes_on, each_ends}
use Rattle.sj_reach.proofs.bodies.go_through_infos.Goals as goal

pub loop-info-init : goal.loop-info-init
loop-info-init c = each_begins _ _ _

pub loop-info-preserved : goal.loop-info-preserved
loop-info-preserved c = each_goes_on _ c.args.infos.now c.loop-info.info-index c.info-item.result _ _ _ (slice_get_read c.args.infos.now _ c.loop-info.info-index c.info-item.result refl (omega arith) c.info-item.is) c.loop-info.invariant c.in_ok-go_through_info.ensures

pub returns : goal.returns
returns c = each_ends _ c.args.infos.now c.loop-info.info-index _ _ (omega arith) c.loop-info.invariant
