use Rattle.std.proofs.lemmas.Result.{on_ok_weaker}
use Rattle.std.proofs.Common.{List}
use Rattle.sj_world.specs.Known.{Name}
use Rattle.sj_reach.specs.Conclusions.{Among}
use Rattle.sj_reach.specs.Steps.{OfProxy, OfHijackedProxy}
use Rattle.sj_reach.proofs.Adding.{adds_then, adds_at}
use Rattle.sj_reach.proofs.infos.reflect_anew.Goals as goal

pub returns : goal.returns
returns c = on_ok_weaker _ (λ h. adds_then _ _ _ _ _ (adds_at (λ (xs : List Name). Among xs (OfProxy c.args.world.now c.args.proxy.now)) _ _ _ _ c.as_slice.ensures.value c.in_ok-reflect_on_each.ensures) (adds_at (λ (xs : List Name). Among xs (OfHijackedProxy c.args.world.now c.args.proxy.now)) _ _ _ _ c.requires h)) c.reflect_on_hijacked.ensures
