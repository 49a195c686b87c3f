use Rattle.std.proofs.lemmas.Result.{IfOk-weaker}
use Rattle.sj_baselink.proofs.Chosen.{are_entries}
use Rattle.sj_baselink.proofs.entries.entries_of.Goals as goal

pub returns : goal.returns
returns c = IfOk-weaker _ _ _ (λ list o. are_entries c.args.w.now c.args.r.now _ _ _ c.new-entries.ensures.empty c.in_ok-put_entries.ensures o) c.in_order.ensures
