use Rattle.std.proofs.Common.{refl, arith}
use Rattle.std.proofs.lemmas.Option.{slice_get_read}
use Rattle.sj_reach.proofs.Adding.{each_begins, each_goes_on, each_ends}
use Rattle.sj_reach.proofs.needed.need_interfaces.Goals as goal

pub loop-name-init : goal.loop-name-init
loop-name-init c = each_begins _ _ _

pub loop-name-preserved : goal.loop-name-preserved
loop-name-preserved c = each_goes_on _ c.args.interfaces.now c.loop-name.name-index c.name-item.result _ _ _ (slice_get_read c.args.interfaces.now _ c.loop-name.name-index c.name-item.result refl (omega arith) c.name-item.is) c.loop-name.invariant c.in_ok-need_of_kind.ensures

pub returns : goal.returns
returns c = each_ends _ c.args.interfaces.now c.loop-name.name-index _ _ (omega arith) c.loop-name.invariant
