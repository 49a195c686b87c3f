use Rattle.std.proofs.Common.{◌∙◌, ap, arith}
use Rattle.code_vectors.proofs.forms.+forms.Goals as goal
use Rattle.sj_trees.proofs.trees.Tree.TheLaws.{the_size}
use Rattle.sj_trees.specs.declared.trees.Tree.TheViews.{sized-Match}

pub is_static_tree-are_static_cases-requires : goal.is_static_tree-are_static_cases-requires
is_static_tree-are_static_cases-requires t c = (rw c.deref-then-is_static_tree-3.ensures.value (omega (arith, ap the_size c.in-Match.is ∙ sized-Match c.in-Match.position c.in-Match.selector c.in-Match.cases c.in-Match.default c.in-Match.tpe)), tt)
