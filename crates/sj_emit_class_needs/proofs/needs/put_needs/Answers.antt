use Rattle.std.proofs.lemmas.Result.{on_ok_weaker}
use Rattle.sj_emit_class_needs.proofs.Putting.{puts_by, puts_nothing}
use Rattle.sj_emit_class_needs.proofs.needs.put_needs.Goals as goal

pub returns-in-Body : goal.returns-in-Body
returns-in-Body c = on_ok_weaker _ (puts_by c.args.w.now c.args.fact.now _ _ _ c.in-Body.is) c.put_forms_of.ensures

pub returns-in-Made : goal.returns-in-Made
returns-in-Made c = on_ok_weaker _ (puts_by c.args.w.now c.args.fact.now _ _ _ c.in-Made.is) c.put_live.ensures

pub returns-in-NeededField : goal.returns-in-NeededField
returns-in-NeededField c = on_ok_weaker _ (puts_by c.args.w.now c.args.fact.now _ _ _ c.in-NeededField.is) c.put_field.ensures

pub returns-in-Needed : goal.returns-in-Needed
returns-in-Needed c = puts_nothing c.args.w.now c.args.fact.now _ _ c.in-Needed.is (λ n q. q)

pub returns-in-CellUsed : goal.returns-in-CellUsed
returns-in-CellUsed c = puts_nothing c.args.w.now c.args.fact.now _ _ c.in-CellUsed.is (λ n q. q)

pub returns-in-Called : goal.returns-in-Called
returns-in-Called c = puts_nothing c.args.w.now c.args.fact.now _ _ c.in-Called.is (λ n q. q)
