use Rattle.std.proofs.Common.{◌≡◌, ◌++◌, drop, map}
use Rattle.std.specs.List.{flat_map}
use Rattle.sj_trees.specs.View.{view}
use Rattle.sj_infos.specs.Infos.{asks}
use Rattle.sj_infos.proofs.asking.ask_all.Given as goal

abbrev pub invariant-loop-tree : goal.invariant-loop-tree
invariant-loop-tree l = l.asked.items ++ flat_map (asks l.sure.keys) (map (λ t. view t.now) (drop l.tree-index l.trees)) ≡ l.fn.asked.items ++ flat_map (asks l.sure.keys) (map (λ t. view t.now) l.trees)
