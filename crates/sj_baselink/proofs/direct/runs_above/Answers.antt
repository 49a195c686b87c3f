use Rattle.std.proofs.Common.{refl}
use Rattle.sj_baselink.proofs.Chosen.{above_tested, none_tested, no_superclass}
use Rattle.sj_baselink.proofs.direct.runs_above.Goals as goal

pub returns-in-Some : goal.returns-in-Some
returns-in-Some c = above_tested c.args.w.now c.args.class.now c.in-Some.above.now c.args.name.now c.args.owner.now _ c.in-Some.ensures c.runs.ensures

pub returns-in-None : goal.returns-in-None
returns-in-None c = none_tested _ refl (no_superclass c.args.w.now c.args.class.now c.args.name.now c.args.owner.now c.in-None.ensures)
