use Rattle.std.proofs.lemmas.Result.{on_ok_weaker}
use Rattle.call_cases.proofs.ReflectedSteps.{one_reflected, one_unreflected, target_is, none_is}
use Rattle.call_cases.proofs.reflected.put_reflected.Goals as goal

pub returns-in-Some : goal.returns-in-Some
returns-in-Some c =
    let reached = target_is c.args.w.now.world c.args.w.now.facts c.in_ok-class.class c.args.proxy.now c.in_ok-target.target c.in-Some.target c.in-Some.is c.in_ok-target.ensures in
    on_ok_weaker _ (one_reflected c.args.w.now.world c.args.w.now.facts c.args.proxy.now c.args.kind c.in_ok-class.class c.in-Some.target.owner c.in-Some.target.method _ _ c.in_ok-class.ensures reached) c.push_reflected.ensures

pub returns : goal.returns
returns c =
    let none = none_is c.args.w.now.world c.args.w.now.facts c.in_ok-class.class c.args.proxy.now c.in_ok-target.target c.in-None.is c.in_ok-target.ensures in
    one_unreflected c.args.w.now.world c.args.w.now.facts c.args.proxy.now c.args.kind c.in_ok-class.class _ c.in_ok-class.ensures none
