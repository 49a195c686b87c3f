use Rattle.std.proofs.lemmas.Result.{on_ok_weaker}
use Rattle.sj_baselink.proofs.Chosen.{puts_reached}
use Rattle.sj_baselink.proofs.direct.put_if_reached.Goals as goal

pub returns-then-has_body : goal.returns-then-has_body
returns-then-has_body c = on_ok_weaker _ (puts_reached c.args.r.now c.args.class.now c.args.name.now c.args.owner.now _ _ _ c.in_ok-target.ensures (c.has_body.ensures.0 c.if-has_body.true)) c.put_entry.ensures
