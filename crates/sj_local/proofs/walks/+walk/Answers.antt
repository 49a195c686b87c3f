use Rattle.std.proofs.Common.{◌∙◌, ap, arith}
use Rattle.sj_trees.proofs.trees.Tree.TheLaws.{the_size}
use Rattle.sj_trees.specs.declared.trees.Tree.TheViews.{sized-Match, sized-Apply, sized-ApplyStatically}
use Rattle.sj_local.proofs.walks.+walk.Goals as goal

pub visit-visit_cases-requires : goal.visit-visit_cases-requires
visit-visit_cases-requires t c = (rw c.deref-in-Match-2.ensures.value (omega (arith, ap the_size c.in-Match.is ∙ sized-Match c.in-Match.position c.in-Match.selector c.in-Match.cases c.in-Match.default c.in-Match.tpe)), tt)

pub visit-visit_all-requires : goal.visit-visit_all-requires
visit-visit_all-requires t c = (rw c.deref-in-Apply-2.ensures.value (omega (arith, ap the_size c.in-Apply.is ∙ sized-Apply c.in-Apply.position c.in-Apply.receiver c.in-Apply.method c.in-Apply.trees c.in-Apply.tpe)), tt)

pub visit-visit_all-requires-in-ApplyStatically : goal.visit-visit_all-requires-in-ApplyStatically
visit-visit_all-requires-in-ApplyStatically t c = (rw c.deref-in-ApplyStatically-2.ensures.value (omega (arith, ap the_size c.in-ApplyStatically.is ∙ sized-ApplyStatically c.in-ApplyStatically.position c.in-ApplyStatically.receiver c.in-ApplyStatically.class c.in-ApplyStatically.namespace c.in-ApplyStatically.method c.in-ApplyStatically.trees c.in-ApplyStatically.tpe)), tt)
