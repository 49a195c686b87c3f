use Rattle.std.proofs.lemmas.Result.{on_ok_weaker}
use Rattle.sj_reach.proofs.Adding.{adds_then}
use Rattle.sj_reach.proofs.infos.make.Goals as goal

pub returns : goal.returns
returns c = on_ok_weaker _ (adds_then _ _ _ _ _ c.in_ok-need_of_kind.ensures) c.add_made.ensures
