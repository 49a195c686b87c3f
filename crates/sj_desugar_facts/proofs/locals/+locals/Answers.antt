use Rattle.std.proofs.Common.{◌∙◌, ap, arith}
use Rattle.sj_desugar_facts.proofs.locals.+locals.Goals as goal
use Rattle.sj_trees.proofs.trees.Tree.TheLaws.{the_size}
use Rattle.sj_trees.specs.declared.trees.Tree.TheViews.{sized-Match}

pub add_mutable-add_mutable_of_cases-requires : goal.add_mutable-add_mutable_of_cases-requires
add_mutable-add_mutable_of_cases-requires t c = (rw c.deref-in-Match-2.ensures.value (omega (arith, ap the_size c.in-Match.is ∙ sized-Match c.in-Match.position c.in-Match.selector c.in-Match.cases c.in-Match.default c.in-Match.tpe)), tt)
