use Rattle.std.proofs.Common.{refl}
use Rattle.sj_baselink.proofs.Chosen.{target_tested, none_tested, no_target_abstract, no_target_missing}
use Rattle.sj_baselink.proofs.direct.runs.Goals as goal

pub returns-in-Target : goal.returns-in-Target
returns-in-Target c = target_tested c.args.w.now c.args.class.now c.args.name.now _ c.in-Target.found.now c.args.owner.now _ c.in-Target.ensures c.is_same.ensures.same

pub returns-in-Abstract : goal.returns-in-Abstract
returns-in-Abstract c = none_tested _ refl (no_target_abstract c.args.w.now c.args.class.now c.args.name.now c.args.owner.now c.in-Abstract.ensures)

pub returns-in-Missing : goal.returns-in-Missing
returns-in-Missing c = none_tested _ refl (no_target_missing c.args.w.now c.args.class.now c.args.name.now c.args.owner.now c.in-Missing.ensures)
