use Rattle.std.proofs.lemmas.Result.{on_ok_weaker}
use Rattle.sj_reach.proofs.Arms.{is_method_of, no_definition, adds_body, adds_no_body}
use Rattle.sj_reach.proofs.Sight.{sees_body, sees_no_body}
use Rattle.sj_reach.proofs.bodies.go_through_body.Goals as goal

pub returns-in-Some-method_in-clause-found : goal.returns-in-Some-method_in-clause-found
returns-in-Some-method_in-clause-found c = on_ok_weaker _ (adds_body c.args.world.now c.args.seen.now c.args.member.now c.in-Some-method_in.method.now _ _ (is_method_of c.args.world.now c.args.member.now c.in-Some.class.now _ c.in-Some-method_in.method.now c.in-Some.ensures c.as_slice.ensures c.in-Some-method_in.ensures)) c.go_through_method.ensures.found

pub returns-in-Some-method_in-clause-seen : goal.returns-in-Some-method_in-clause-seen
returns-in-Some-method_in-clause-seen c = on_ok_weaker _ (sees_body c.args.world.now c.args.member.now c.in-Some-method_in.method.now _ _ (is_method_of c.args.world.now c.args.member.now c.in-Some.class.now _ c.in-Some-method_in.method.now c.in-Some.ensures c.as_slice.ensures c.in-Some-method_in.ensures)) c.go_through_method.ensures.seen

pub returns-in-None-clause-found : goal.returns-in-None-clause-found
returns-in-None-clause-found c = adds_no_body c.args.world.now c.args.seen.now c.args.member.now _ (no_definition c.args.world.now c.args.member.now c.in-Some.class.now _ c.in-Some.ensures c.as_slice.ensures c.in-None.ensures)

pub returns-in-None-clause-seen : goal.returns-in-None-clause-seen
returns-in-None-clause-seen c = sees_no_body c.args.world.now c.args.member.now _ (no_definition c.args.world.now c.args.member.now c.in-Some.class.now _ c.in-Some.ensures c.as_slice.ensures c.in-None.ensures)
