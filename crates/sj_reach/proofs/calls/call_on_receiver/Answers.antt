use Rattle.std.proofs.lemmas.Result.{on_ok_weaker}
use Rattle.std.proofs.Common.{Bool, false, sym, ap, ◌∙◌}
use Rattle.sj_names.specs.WellKnown.{is_hijacked}
use Rattle.sj_reach.specs.Steps.{OfReceiver}
use Rattle.sj_reach.proofs.Adding.{adds_then, adds_at}
use Rattle.sj_reach.proofs.calls.call_on_receiver.Goals as goal

pub returns : goal.returns
returns c = on_ok_weaker _ (λ h. adds_at (λ (b : Bool). OfReceiver c.args.world.now b c.args.class.now c.args.method.now) false _ _ _ (sym c.if-is_hijacked.false ∙ c.is_hijacked.ensures ∙ ap is_hijacked c.text.ensures.text) (adds_then _ _ _ _ _ c.in_ok-expect_method.ensures h)) c.add_called.ensures
