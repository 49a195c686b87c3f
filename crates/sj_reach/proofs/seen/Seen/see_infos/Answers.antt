use Rattle.std.proofs.Common.{refl, arith}
use Rattle.std.proofs.lemmas.Option.{slice_get_read}
use Rattle.sj_reach.proofs.Sight.{infos_begin, infos_go_on, infos_end}
use Rattle.sj_reach.proofs.seen.Seen.see_infos.Goals as goal

pub loop-info-init : goal.loop-info-init
loop-info-init c = infos_begin _ _

pub loop-info-preserved : goal.loop-info-preserved
loop-info-preserved c = infos_go_on c.args.infos.now c.loop-info.info-index c.info-item.result _ _ _ (slice_get_read c.args.infos.now _ c.loop-info.info-index c.info-item.result refl (omega arith) c.info-item.is) c.loop-info.invariant c.in_ok-see_info.ensures

pub returns : goal.returns
returns c = infos_end c.args.infos.now c.loop-info.info-index _ _ (omega arith) c.loop-info.invariant
