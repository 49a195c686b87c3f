use Rattle.std.proofs.Common.{◌≡◌, []}
use Rattle.sj_world.specs.declared.facts.Fact.TheVariants.{Made}
use Rattle.sj_baselink.specs.Steps.{Puts}
use Rattle.sj_baselink.proofs.Putting.{OfFirst}
use Rattle.sj_baselink.proofs.made.made_classes.Given as goal

abbrev pub invariant-loop-fact : goal.invariant-loop-fact
invariant-loop-fact l = Puts (OfFirst l.facts l.fact-index (λ f c. f ≡ Made c)) [] l.made.keys
