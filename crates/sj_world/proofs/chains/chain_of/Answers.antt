use Rattle.std.proofs.lemmas.Result.{IfOk-weaker}
use Rattle.sj_world.proofs.Climbed.{climbed}
use Rattle.sj_world.proofs.chains.chain_of.Goals as goal

pub returns : goal.returns
returns c = IfOk-weaker c.listed.result _ _ (λ names e. climbed c.args.classes.now c.args.name.now c.in_ok-copied.field-0 c.in_ok-found.found.keys names.items c.in_ok-copied.ensures c.in_ok-found.ensures.reached c.in_ok-found.ensures.in_order c.in_ok-found.ensures.once e) c.listed.ensures
