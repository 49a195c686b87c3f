use Rattle.std.proofs.lemmas.Result.{on_ok_weaker}
use Rattle.sj_reach.proofs.Adding.{adds_then}
use Rattle.sj_reach.proofs.infos.use_field.Goals as goal

pub returns : goal.returns
returns c = on_ok_weaker _ (λ h. adds_then _ _ _ _ _ (adds_then _ _ _ _ _ c.in_ok-add_needed.ensures c.in_ok-add_field.ensures) h) c.expect_field.ensures
