use Rattle.std.proofs.lemmas.Result.{on_ok_weaker}
use Rattle.sj_baselink.proofs.Chained.{puts_chain, puts_alone}
use Rattle.sj_baselink.proofs.live.put_chain.Goals as goal

pub returns-in-Some : goal.returns-in-Some
returns-in-Some c = on_ok_weaker _ (puts_chain c.args.w.now c.args.class.now c.in-Some.chain.now c.in-Some.ensures.1 _ _) c.put_classes.ensures

pub returns-in-None : goal.returns-in-None
returns-in-None c = on_ok_weaker _ (puts_alone c.args.w.now c.args.class.now c.in-None.ensures _ _) c.put_class.ensures
