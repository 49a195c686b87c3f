use Rattle.std.proofs.Common.{◌≡◌, [], drop}
use Rattle.sj_trees.specs.View.{cases_view}
use Rattle.sj_local.specs.TreeRules.{have_repeat}
use Rattle.sj_local.proofs.trees.have_repeat.Given as goal

abbrev pub invariant-loop-case : goal.invariant-loop-case
invariant-loop-case l = have_repeat l.earlier.keys (cases_view (drop l.case-index l.cases)) ≡ have_repeat [] (cases_view l.cases)
