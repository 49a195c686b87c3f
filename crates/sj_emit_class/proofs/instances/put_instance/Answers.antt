use Rattle.std.proofs.Common.{rules}
use Rattle.sj_emit_class.proofs.Parts.{one_instance, one_not_instance, not_true}
use Rattle.sj_emit_class.proofs.instances.put_instance.Goals as goal

pub returns-in_ok-push : goal.returns-in_ok-push
returns-in_ok-push c = one_instance c.args.world.now c.args.class.now c.args.kind c.args.found.now.items _ (c.in_ok-is_instance.ensures.0 c.if-branch.true) (search rules)

pub returns-else-branch : goal.returns-else-branch
returns-else-branch c = one_not_instance c.args.world.now c.args.class.now c.args.kind c.args.found.now.items (λ h. not_true c.in_ok-is_instance.field-0 (c.in_ok-is_instance.ensures.1 h) c.if-branch.false)
