use Rattle.std.proofs.Common.{Contains}
use Rattle.class_lists.specs.Lists.{items_at}
use Rattle.sj_baselink.specs.Steps.{Puts}
use Rattle.sj_baselink.proofs.Putting.{OfFirst}
use Rattle.sj_baselink.proofs.called.put_called_on_each.Given as goal

abbrev pub invariant-loop-receiver : goal.invariant-loop-receiver
invariant-loop-receiver l = Puts (OfFirst l.receivers l.receiver-index (λ receiver. Contains (items_at l.called receiver))) l.fn.names.keys l.names.keys
