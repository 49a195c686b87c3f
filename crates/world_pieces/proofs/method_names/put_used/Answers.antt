use Rattle.sj_baselink.proofs.Putting.{puts_key}
use Rattle.sj_names.proofs.Equal.{method_decides}
use Rattle.sj_names.specs.contracts.method_names.MethodNamePartialEq.TheImpl as method_eq
use Rattle.world_pieces.proofs.ToldPieces.{one_used}
use Rattle.world_pieces.proofs.method_names.put_used.Goals as goal

pub returns-in_ok-insert : goal.returns-in_ok-insert
returns-in_ok-insert c = one_used c.args.binding c.args.words.now.keys c.args.method.now c.args.methods.now.keys _ (c.in_ok-is_told.ensures.0 c.if-branch.true) (puts_key method_eq.ghosts.eq (λ a b h. (method_decides a b).0 h) c.args.methods.now.keys _ c.in_ok-copied.field-0 c.args.method.now c.in_ok-copied.ensures c.in_ok-insert.ensures.keys)
