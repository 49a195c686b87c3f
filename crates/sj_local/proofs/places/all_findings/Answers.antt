use Rattle.sj_local.proofs.TreeSteps.{zip_more}
use Rattle.sj_local.specs.MethodParts.{HasFindings}
use Rattle.sj_local.proofs.places.all_findings.Goals as goal

pub loop-method-preserved : goal.loop-method-preserved
loop-method-preserved c = zip_more (HasFindings c.args.class.now) c.args.class.now.methods c.as_slice-method-items.result.now c.loop-method.all.items c.push.new.self.items c.loop-method.method-index c.method-item.result c.in_ok-findings_in.field-0 c.loop-method.invariant c.as_slice-method-items.ensures c.loop-method-test.true c.method-item.is c.in_ok-findings_in.ensures c.in_ok-push.ensures.items
