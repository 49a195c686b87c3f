use Rattle.sj_world.specs.Facts.{PutsBelow}
use Rattle.sj_world.proofs.Kept.{IsOneOfFirst}
use Rattle.sj_world.proofs.below.put_below_each.Given as goal

abbrev pub invariant-loop-ancestor : goal.invariant-loop-ancestor
invariant-loop-ancestor l = PutsBelow (IsOneOfFirst l.ancestors l.ancestor-index) l.class l.fn.below l.below
