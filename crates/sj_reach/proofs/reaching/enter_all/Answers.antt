use Rattle.std.proofs.Common.{refl, arith}
use Rattle.std.proofs.lemmas.Option.{slice_get_read}
use Rattle.sj_reach.proofs.Adding.{each_begins, each_goes_on, each_ends}
use Rattle.sj_reach.proofs.reaching.enter_all.Goals as goal

pub loop-entry-init : goal.loop-entry-init
loop-entry-init c = each_begins _ _ _

pub loop-entry-preserved : goal.loop-entry-preserved
loop-entry-preserved c = each_goes_on _ c.args.entries.now c.loop-entry.entry-index c.entry-item.result _ _ _ (slice_get_read c.args.entries.now _ c.loop-entry.entry-index c.entry-item.result refl (omega arith) c.entry-item.is) c.loop-entry.invariant c.in_ok-enter.ensures

pub returns : goal.returns
returns c = each_ends _ c.args.entries.now c.loop-entry.entry-index _ _ (omega arith) c.loop-entry.invariant
