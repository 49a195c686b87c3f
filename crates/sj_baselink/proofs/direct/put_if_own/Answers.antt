use Rattle.std.proofs.lemmas.Result.{on_ok_weaker}
use Rattle.sj_baselink.proofs.Chosen.{is_inherited, is_not_inherited, puts_inherited, puts_own}
use Rattle.sj_baselink.proofs.direct.put_if_own.Goals as goal

pub returns-then-is_inherited : goal.returns-then-is_inherited
returns-then-is_inherited c = puts_inherited c.args.w.now c.args.r.now c.args.class.now c.args.name.now c.args.owner.now _ (is_inherited c.args.w.now c.args.r.now c.args.class.now c.args.name.now c.args.owner.now _ _ c.is_inherited.ensures c.requires c.if-is_inherited.true)

pub returns-else-is_inherited : goal.returns-else-is_inherited
returns-else-is_inherited c = on_ok_weaker _ (puts_own c.args.w.now c.args.r.now c.args.class.now c.args.name.now c.args.owner.now _ _ (is_not_inherited c.args.w.now c.args.r.now c.args.class.now c.args.name.now c.args.owner.now _ _ c.is_inherited.ensures c.requires c.if-is_inherited.false)) c.put_if_reached.ensures
