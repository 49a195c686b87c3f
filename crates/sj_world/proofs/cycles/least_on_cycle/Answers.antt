use Rattle.std.proofs.Common.{refl, arith}
use Rattle.std.proofs.lemmas.Option.{slice_get_read}
use Rattle.sj_world.proofs.OnCycles.{none_more, none_whole, least_on_cycle, off_cycle}
use Rattle.sj_world.proofs.cycles.least_on_cycle.Goals as goal

pub returns-then-branch : goal.returns-then-branch
returns-then-branch c = least_on_cycle c.args.classes.now c.requires c.loop-class.class-index c.class-item.result c.loop-class.invariant (slice_get_read c.args.classes.now _ c.loop-class.class-index c.class-item.result refl (omega arith) c.class-item.is) (c.in_ok-is_on_cycle.ensures.0 c.if-branch.true)

pub loop-class-preserved : goal.loop-class-preserved
loop-class-preserved c = none_more c.args.classes.now c.loop-class.class-index c.class-item.result c.loop-class.invariant (slice_get_read c.args.classes.now _ c.loop-class.class-index c.class-item.result refl (omega arith) c.class-item.is) (off_cycle c.args.classes.now c.class-item.result.name _ c.in_ok-is_on_cycle.ensures c.if-branch.false)

pub returns : goal.returns
returns c = none_whole c.args.classes.now c.loop-class.class-index c.loop-class.invariant (omega arith)
