use Rattle.sj_baselink.proofs.Chained.{second_is_next}
use Rattle.sj_baselink.proofs.superclasses.second_on_chain.Goals as goal

pub returns-in-Some : goal.returns-in-Some
returns-in-Some c = second_is_next c.args.w.now c.args.class.now c.requires c.in-Some.chain.now _ c.in-Some.ensures.1 c.second.ensures
