use Rattle.std.proofs.Common.{sym, ◌∙◌, arith}
use Rattle.sj_world.proofs.Twice.{least_twice_at, rising_more_at, rising_whole}
use Rattle.sj_world.proofs.order.first_twice.Goals as goal

pub returns-then-is_same : goal.returns-then-is_same
returns-then-is_same c = least_twice_at c.args.classes.now c.requires c.loop-place.place (omega arith) (omega arith) c.loop-place.invariant c.index-classes-place-in-loop-place.result c.index-classes-place.result (sym c.is_same.ensures.value ∙ c.if-is_same.true)

pub loop-place-preserved : goal.loop-place-preserved
loop-place-preserved c = rising_more_at c.args.classes.now c.requires c.loop-place.place (omega arith) (omega arith) c.loop-place.invariant c.index-classes-place-in-loop-place.result c.index-classes-place.result (sym c.is_same.ensures.value ∙ c.if-is_same.false)

pub returns : goal.returns
returns c = rising_whole c.args.classes.now c.loop-place.place c.loop-place.invariant (omega arith)
