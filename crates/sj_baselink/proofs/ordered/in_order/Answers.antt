use Rattle.sj_baselink.proofs.Sorted.{once_in_order}
use Rattle.sj_baselink.proofs.ordered.in_order.Goals as goal

pub returns : goal.returns
returns c = once_in_order c.args.entries.keys c.in_ok-all.all.items c.in_ok-list.list.items c.in_ok-all.ensures.all c.in_ok-all.ensures.once c.in_ok-list.ensures.exact c.in_ok-list.ensures.in_order
