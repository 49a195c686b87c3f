use Rattle.std.proofs.Common.{Contains, refl, arith}
use Rattle.std.proofs.lemmas.Option.{slice_get_read}
use Rattle.sj_baselink.proofs.Putting.{each_begins, each_goes_on, each_ends}
use Rattle.sj_emit_class_needs.proofs.live.put_each.Goals as goal

pub loop-name-init : goal.loop-name-init
loop-name-init c = each_begins Contains _ _ _

pub loop-name-preserved : goal.loop-name-preserved
loop-name-preserved c = each_goes_on Contains _ c.args.names.now c.loop-name.name-index c.name-item.result _ _ _ (slice_get_read c.args.names.now _ c.loop-name.name-index c.name-item.result refl (omega arith) c.name-item.is) c.loop-name.invariant c.in_ok-put_one.ensures

pub returns : goal.returns
returns c = each_ends Contains _ c.args.names.now c.loop-name.name-index _ _ (omega arith) c.loop-name.invariant
