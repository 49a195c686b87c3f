use Rattle.std.proofs.lemmas.Result.{on_ok_weaker}
use Rattle.sj_reach.proofs.Adding.{adds_none}
use Rattle.sj_reach.proofs.Arms.{adds_given, has_field, lacks_field}
use Rattle.sj_reach.proofs.infos.expect_field.Goals as goal

pub returns-in-Some-field_in : goal.returns-in-Some-field_in
returns-in-Some-field_in c = adds_none _ _ (λ x q. has_field c.args.world.now c.args.class.now c.args.field.now c.args.is_static c.in-Some.there.now _ _ c.in-Some.ensures c.as_slice.ensures c.in-Some-field_in.ensures q.0)

pub returns-in-None : goal.returns-in-None
returns-in-None c = on_ok_weaker _ (adds_given _ _ _ _ (lacks_field c.args.world.now c.args.class.now c.args.field.now c.args.is_static c.in-Some.there.now _ c.in-Some.ensures c.as_slice.ensures c.in-None.ensures)) c.tell_missing_field.ensures
