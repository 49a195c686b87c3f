use Rattle.std.proofs.Common.{List, refl, arith}
use Rattle.sj_names.specs.declared.method_names.MethodName.{MethodName}
use Rattle.sj_reach.specs.Conclusions.{Among}
use Rattle.sj_reach.specs.Steps.{OfDispatch}
use Rattle.std.proofs.lemmas.Option.{slice_get_read}
use Rattle.sj_reach.proofs.Adding.{adds_at, each_begins, each_goes_on, each_ends}
use Rattle.sj_reach.proofs.dispatched.dispatch_from_each.Goals as goal

pub loop-ancestor-init : goal.loop-ancestor-init
loop-ancestor-init c = each_begins _ _ _

pub loop-ancestor-preserved : goal.loop-ancestor-preserved
loop-ancestor-preserved c = each_goes_on _ c.args.ancestors.now c.loop-ancestor.ancestor-index c.ancestor-item.result _ _ _ (slice_get_read c.args.ancestors.now _ c.loop-ancestor.ancestor-index c.ancestor-item.result refl (omega arith) c.ancestor-item.is) c.loop-ancestor.invariant (adds_at (λ (ms : List MethodName). Among ms (λ m. OfDispatch c.args.world.now m c.args.class.now)) _ _ _ _ c.at.ensures c.in_ok-dispatch_all.ensures)

pub returns : goal.returns
returns c = each_ends _ c.args.ancestors.now c.loop-ancestor.ancestor-index _ _ (omega arith) c.loop-ancestor.invariant
