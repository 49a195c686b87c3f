use Rattle.std.proofs.lemmas.Result.{on_ok_weaker}
use Rattle.sj_emit_class_needs.proofs.Putting.{puts_chain_live, puts_alone_live}
use Rattle.sj_emit_class_needs.proofs.live.put_live.Goals as goal

pub returns-in-Some : goal.returns-in-Some
returns-in-Some c = on_ok_weaker _ (puts_chain_live c.args.w.now c.args.class.now c.in-Some.chain.now _ _ c.in-Some.ensures.1) c.put_each.ensures

pub returns-in-None : goal.returns-in-None
returns-in-None c = on_ok_weaker _ (puts_alone_live c.args.w.now c.args.class.now _ _ c.in-None.ensures) c.put_one.ensures
