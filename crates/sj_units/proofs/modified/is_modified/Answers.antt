use Rattle.sj_units.proofs.FirstUnit.{is_some-rest}
use Rattle.sj_units.proofs.modified.is_modified.Goals as goal

pub loop-after-preserved : goal.loop-after-preserved
loop-after-preserved c = is_some-rest c.loop-after.rest.now c.in-Some.after.now _ _ c.in-Some.ensures c.loop-after.invariant
