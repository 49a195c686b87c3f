use Rattle.std.proofs.lemmas.Result.{on_ok_weaker}
use Rattle.sj_emit_class_needs.proofs.Putting.{puts_static, puts_no_static}
use Rattle.sj_emit_class_needs.proofs.needs.put_field.Goals as goal

pub returns-then-is_static : goal.returns-then-is_static
returns-then-is_static c = on_ok_weaker _ (puts_static c.args.class.now c.args.field.now c.args.is_static _ _ c.if-is_static.true) c.put_static.ensures

pub returns-else-is_static : goal.returns-else-is_static
returns-else-is_static c = puts_no_static c.args.class.now c.args.field.now c.args.is_static _ c.if-is_static.false
