use Rattle.sj_local.proofs.Bodies.{body-declared, body-findings, outermost_is, begun_is}
use Rattle.sj_local.proofs.walks.walked.Goals as goal

pub returns-clause-declared : goal.returns-clause-declared
returns-clause-declared c = body-declared c.args.class.now c.args.method.now _ _ _ _ _ (outermost_is c.args.method.now _ _ _ c.as_slice.ensures c.in_ok-walk.ensures.scope c.in_ok-walk.ensures.labels) c.tree.ensures c.in-Some.is (begun_is c.args.method.now _ _ c.as_slice.ensures c.in_ok-walk.ensures.trace) c.in_ok-visit.ensures.trace

pub returns-clause-findings : goal.returns-clause-findings
returns-clause-findings c = body-findings c.args.class.now c.args.method.now _ _ _ _ _ (outermost_is c.args.method.now _ _ _ c.as_slice.ensures c.in_ok-walk.ensures.scope c.in_ok-walk.ensures.labels) c.tree.ensures c.in-Some.is (begun_is c.args.method.now _ _ c.as_slice.ensures c.in_ok-walk.ensures.trace) c.in_ok-visit.ensures.trace
