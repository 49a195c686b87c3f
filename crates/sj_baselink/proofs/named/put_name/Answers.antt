use Rattle.sj_names.specs.contracts.method_names.MethodNamePartialEq.TheImpl as method_eq
use Rattle.sj_names.proofs.Equal.{method_decides}
use Rattle.sj_baselink.proofs.Putting.{puts_key}
use Rattle.sj_baselink.proofs.named.put_name.Goals as goal

pub returns : goal.returns
returns c = puts_key method_eq.ghosts.eq (λ a b h. (method_decides a b).0 h) c.args.names.now.keys _ c.in_ok-copied.field-0 c.args.name.now c.in_ok-copied.ensures c.in_ok-insert.ensures.keys
