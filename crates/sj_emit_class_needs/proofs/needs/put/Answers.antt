use Rattle.std.proofs.Common.{refl}
use Rattle.sj_baselink.proofs.Putting.{puts_key}
use Rattle.sj_emit_class_needs.specs.contracts.needs.ClassNeedPartialEq.TheImpl as need_eq
use Rattle.sj_emit_class_needs.proofs.SameNeeds.{need_is}
use Rattle.sj_emit_class_needs.proofs.needs.put.Goals as goal

pub returns : goal.returns
returns c = puts_key need_eq.ghosts.eq need_is c.args.needs.now.keys _ c.args.need c.args.need refl c.in_ok-insert.ensures.keys
