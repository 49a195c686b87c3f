use Rattle.std.proofs.lemmas.Result.{IfOk-weaker}
use Rattle.sj_world.proofs.Found.{ancestors_sorted}
use Rattle.sj_world.proofs.above.ancestors_of.Goals as goal

pub returns : goal.returns
returns c = IfOk-weaker c.listed.result _ _ (λ names e. ancestors_sorted c.args.classes.now c.args.name.now c.in_ok-found.found.keys c.sort_unstable.new.self.keys names.items c.in_ok-found.ensures c.in_ok-sort_unstable.ensures.reordered.0 c.in_ok-sort_unstable.ensures.sorted c.in_ok-sort_unstable.ensures.unique e) c.listed.ensures
