use Rattle.std.proofs.lemmas.Result.{on_ok_weaker}
use Rattle.sj_baselink.proofs.Chosen.{no_target_abstract, no_target_missing, puts_target, puts_no_target}
use Rattle.sj_baselink.proofs.direct.put_own.Goals as goal

pub returns-in-Target : goal.returns-in-Target
returns-in-Target c = on_ok_weaker _ (puts_target c.args.w.now c.args.r.now c.args.class.now c.args.name.now c.in-Target.owner.now _ _ _ c.in-Target.ensures) c.put_if_own.ensures

pub returns-in-Abstract : goal.returns-in-Abstract
returns-in-Abstract c = puts_no_target c.args.w.now c.args.r.now c.args.class.now c.args.name.now _ (λ owner. no_target_abstract c.args.w.now c.args.class.now c.args.name.now owner c.in-Abstract.ensures)

pub returns-in-Missing : goal.returns-in-Missing
returns-in-Missing c = puts_no_target c.args.w.now c.args.r.now c.args.class.now c.args.name.now _ (λ owner. no_target_missing c.args.w.now c.args.class.now c.args.name.now owner c.in-Missing.ensures)
