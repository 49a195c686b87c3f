use Rattle.sj_local.proofs.TreeSteps.{Leads, Pairs}
use Rattle.sj_local.proofs.places.tree_place.Given as goal

abbrev pub invariant-loop-index : goal.invariant-loop-index
invariant-loop-index l =
    record {
      leads : Leads l.rule l.class l.index;
      pairs : Pairs l.class l.findings l.index;
    }
