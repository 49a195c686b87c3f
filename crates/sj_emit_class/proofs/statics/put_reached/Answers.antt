use Rattle.std.proofs.Common.{map}
use Rattle.sj_emit_class.proofs.Parts.{field_of, one_reached, one_other, not_true, put_field}
use Rattle.sj_emit_class.proofs.statics.put_reached.Goals as goal

pub returns-in_ok-push : goal.returns-in_ok-push
returns-in_ok-push c = one_reached c.args.w.now.facts c.args.class.now c.args.field.now (map field_of c.args.reached.now.items) _ (c.in_ok-is_reached.ensures.0 c.if-branch.true) (put_field _ _ _ c.in_ok-push.ensures.items)

pub returns-else-branch : goal.returns-else-branch
returns-else-branch c = one_other c.args.w.now.facts c.args.class.now c.args.field.now (map field_of c.args.reached.now.items) (λ h. not_true c.in_ok-is_reached.field-0 (c.in_ok-is_reached.ensures.1 h) c.if-branch.false)
