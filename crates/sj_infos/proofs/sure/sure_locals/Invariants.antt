use Rattle.std.proofs.Common.{◌≡◌, [], drop, map}
use Rattle.sj_trees.specs.View.{view}
use Rattle.sj_infos.specs.Sure.{sure_among}
use Rattle.sj_infos.proofs.sure.sure_locals.Given as goal

abbrev pub invariant-loop-tree : goal.invariant-loop-tree
invariant-loop-tree l = sure_among l.sure.keys (map (λ t. view t.now) (drop l.tree-index l.trees)) ≡ sure_among [] (map (λ t. view t.now) l.trees)
