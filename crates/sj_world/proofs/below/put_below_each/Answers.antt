use Rattle.std.proofs.Common.{refl, arith}
use Rattle.std.proofs.lemmas.Option.{slice_get_read}
use Rattle.sj_world.proofs.Kept.{below_begins, below_goes_on, below_ends}
use Rattle.sj_world.proofs.below.put_below_each.Goals as goal

pub loop-ancestor-init : goal.loop-ancestor-init
loop-ancestor-init c = below_begins _ _ _

pub loop-ancestor-preserved : goal.loop-ancestor-preserved
loop-ancestor-preserved c = below_goes_on c.args.ancestors.now c.loop-ancestor.ancestor-index c.ancestor-item.result c.args.class.now c.in_ok-copied.field-0 _ _ _ (slice_get_read c.args.ancestors.now _ c.loop-ancestor.ancestor-index c.ancestor-item.result refl (omega arith) c.ancestor-item.is) c.in_ok-copied.ensures c.loop-ancestor.invariant c.in_ok-put.ensures

pub returns : goal.returns
returns c = below_ends c.args.ancestors.now c.loop-ancestor.ancestor-index _ _ _ (omega arith) c.loop-ancestor.invariant
