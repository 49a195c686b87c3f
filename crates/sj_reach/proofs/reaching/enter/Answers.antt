use Rattle.std.proofs.lemmas.Result.{on_ok_weaker}
use Rattle.sj_reach.specs.Steps.{OfAsked}
use Rattle.sj_reach.proofs.Adding.{adds_then, adds_at}
use Rattle.sj_reach.proofs.reaching.enter.Goals as goal

pub returns : goal.returns
returns c = on_ok_weaker _ (λ h. adds_then _ _ _ _ _ c.in_ok-add_needed.ensures (adds_at (OfAsked c.args.world.now) _ _ _ _ c.in_ok-member.ensures h)) c.ask_for.ensures
