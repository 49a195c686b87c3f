use Rattle.std.proofs.Common.{refl, arith}
use Rattle.std.proofs.lemmas.Option.{slice_get_read}
use Rattle.sj_reach.proofs.Adding.{each_begins, each_goes_on, each_ends}
use Rattle.sj_reach.proofs.reflected.run_each.Goals as goal

pub loop-method-init : goal.loop-method-init
loop-method-init c = each_begins _ _ _

pub loop-method-preserved : goal.loop-method-preserved
loop-method-preserved c = each_goes_on _ c.args.methods.now c.loop-method.method-index c.method-item.result _ _ _ (slice_get_read c.args.methods.now _ c.loop-method.method-index c.method-item.result refl (omega arith) c.method-item.is) c.loop-method.invariant c.in_ok-run.ensures

pub returns : goal.returns
returns c = each_ends _ c.args.methods.now c.loop-method.method-index _ _ (omega arith) c.loop-method.invariant
