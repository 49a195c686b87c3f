use Rattle.std.proofs.Common.{◌≡◌, ◌++◌, drop}
use Rattle.sj_split.specs.Steps.{tags_in}
use Rattle.sj_split.proofs.tags.tags.Given as goal

abbrev pub invariant-loop-reach : goal.invariant-loop-reach
invariant-loop-reach l = l.tags.items ++ tags_in l.component (drop l.reach-index l.reaches) ≡ tags_in l.component l.reaches
