use Rattle.std.proofs.Common.{◌≡◌}
use Rattle.sj_world.specs.declared.facts.Fact.TheVariants.{Called}
use Rattle.sj_baselink.specs.Steps.{Adds, IsListed}
use Rattle.sj_baselink.proofs.Putting.{OfFirst}
use Rattle.sj_baselink.proofs.called.called_names.Given as goal

abbrev pub invariant-loop-fact : goal.invariant-loop-fact
invariant-loop-fact l = Adds IsListed (OfFirst l.facts l.fact-index (λ f p. f ≡ Called p.0 p.1)) l.initial.called l.called
