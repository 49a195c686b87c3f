use Rattle.std.proofs.Common.{ap, not, ◌∙◌}
use Rattle.sj_reach.proofs.Adding.{adds_none}
use Rattle.sj_reach.proofs.Arms.{is_method_of, no_member_told}
use Rattle.sj_reach.proofs.asked.tell_of_member.Goals as goal

pub returns-in-Some-2 : goal.returns-in-Some-2
returns-in-Some-2 c = adds_none _ _ (no_member_told c.args.world.now c.args.member.now c.in-Some-method_in.method.now (is_method_of c.args.world.now c.args.member.now c.in-Some.class.now _ c.in-Some-method_in.method.now c.in-Some.ensures c.as_slice.ensures c.in-Some-method_in.ensures) (c.is_none.ensures ∙ ap not c.if-is_none.false))
