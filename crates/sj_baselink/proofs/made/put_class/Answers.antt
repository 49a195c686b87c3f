use Rattle.sj_world.specs.Known.{is_same}
use Rattle.sj_world.proofs.Orders.{same_name}
use Rattle.sj_baselink.proofs.Putting.{puts_key}
use Rattle.sj_baselink.proofs.made.put_class.Goals as goal

pub returns : goal.returns
returns c = puts_key is_same same_name c.args.classes.now.keys _ c.in_ok-copied.field-0 c.args.class.now c.in_ok-copied.ensures c.in_ok-insert.ensures.keys
