use Rattle.std.proofs.lemmas.Result.{on_ok_weaker}
use Rattle.call_cases.proofs.Steps.{one_told, one_untold, target_is, none_is}
use Rattle.call_cases.proofs.told.put_told.Goals as goal

pub returns-in-Some : goal.returns-in-Some
returns-in-Some c =
    let reached = target_is c.args.w.now.world c.args.w.now.facts c.in_ok-class.class c.args.method.now c.in_ok-target.target c.in-Some.owner c.in-Some.is c.in_ok-target.ensures in
    on_ok_weaker _ (one_told c.args.w.now.world c.args.w.now.facts c.args.method.now c.args.kind c.in_ok-class.class c.in-Some.owner _ _ c.in_ok-class.ensures reached) c.push_told.ensures

pub returns : goal.returns
returns c =
    let none = none_is c.args.w.now.world c.args.w.now.facts c.in_ok-class.class c.args.method.now c.in_ok-target.target c.in-None.is c.in_ok-target.ensures in
    one_untold c.args.w.now.world c.args.w.now.facts c.args.method.now c.args.kind c.in_ok-class.class _ c.in_ok-class.ensures none
