use Rattle.std.proofs.lemmas.Result.{on_ok_weaker}
use Rattle.std.proofs.Common.{List}
use Rattle.sj_world.specs.Known.{Name}
use Rattle.sj_world.specs.declared.facts.Fact.TheVariants.{Needed}
use Rattle.sj_reach.specs.Conclusions.{Among, Just, follows}
use Rattle.sj_reach.specs.Steps.{OfHijacked}
use Rattle.sj_reach.proofs.Adding.{adds_then, adds_at}
use Rattle.sj_reach.proofs.reaching.start.Goals as goal

pub returns : goal.returns
returns c = on_ok_weaker _ (λ h. adds_then _ _ _ _ _ (adds_then _ _ _ _ _ (adds_at (λ (n : Name). Just (follows (Needed n))) _ _ _ _ c.in_ok-object.ensures c.in_ok-add_needed.ensures) c.in_ok-enter_all.ensures) (adds_at (λ (xs : List Name). Among xs (OfHijacked c.args.world.now)) _ _ _ _ c.requires h)) c.need_parents_of_all.ensures
