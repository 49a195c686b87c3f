use Rattle.std.proofs.Common.{Contains, refl, arith}
use Rattle.std.proofs.lemmas.Option.{slice_get_read}
use Rattle.sj_baselink.proofs.Putting.{each_begins, each_goes_on, each_ends}
use Rattle.sj_baselink.proofs.Gathered.{puts_at}
use Rattle.sj_baselink.proofs.called.put_called_on_each.Goals as goal

pub loop-receiver-init : goal.loop-receiver-init
loop-receiver-init c = each_begins Contains _ _ _

pub loop-receiver-preserved : goal.loop-receiver-preserved
loop-receiver-preserved c = each_goes_on Contains _ c.args.receivers.now c.loop-receiver.receiver-index c.receiver-item.result _ _ _ (slice_get_read c.args.receivers.now _ c.loop-receiver.receiver-index c.receiver-item.result refl (omega arith) c.receiver-item.is) c.loop-receiver.invariant (puts_at c.args.called.now c.receiver-item.result _ _ _ c.at.ensures c.in_ok-put_names.ensures)

pub returns : goal.returns
returns c = each_ends Contains _ c.args.receivers.now c.loop-receiver.receiver-index _ _ (omega arith) c.loop-receiver.invariant
