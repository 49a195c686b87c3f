use Rattle.sj_split.specs.Steps.{AreHomesByTags}
use Rattle.sj_split.proofs.tags.homes_of_components.Given as goal

abbrev pub invariant-loop-component : goal.invariant-loop-component
invariant-loop-component l = AreHomesByTags l.reaches l.component l.homes.items
