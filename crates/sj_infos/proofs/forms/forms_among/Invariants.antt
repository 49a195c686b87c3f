use Rattle.std.proofs.Common.{◌≡◌, ◌++◌, drop, map}
use Rattle.sj_trees.specs.View.{view}
use Rattle.sj_infos.specs.Forms.{forms_among}
use Rattle.sj_infos.proofs.forms.forms_among.Given as goal

abbrev pub invariant-loop-tree : goal.invariant-loop-tree
invariant-loop-tree l = l.forms.items ++ forms_among (map (λ t. view t.now) (drop l.tree-index l.trees)) ≡ forms_among (map (λ t. view t.now) l.trees)
