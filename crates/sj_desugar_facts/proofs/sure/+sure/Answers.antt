use Rattle.std.proofs.Common.{◌∙◌, ap, arith}
use Rattle.sj_desugar_facts.proofs.sure.+sure.Goals as goal
use Rattle.sj_trees.proofs.trees.Tree.TheLaws.{the_size}
use Rattle.sj_trees.specs.declared.trees.Tree.TheViews.{sized-Apply, sized-ApplyStatically}

pub add_sure-add_all_sure-requires-in-Apply : goal.add_sure-add_all_sure-requires-in-Apply
add_sure-add_all_sure-requires-in-Apply t c = (rw c.deref-in-Apply-2.ensures.value (omega (arith, ap the_size c.in-Apply.is ∙ sized-Apply c.in-Apply.position c.in-Apply.receiver c.in-Apply.method c.in-Apply.trees c.in-Apply.tpe)), tt)

pub add_sure-add_all_sure-requires-in-ApplyStatically : goal.add_sure-add_all_sure-requires-in-ApplyStatically
add_sure-add_all_sure-requires-in-ApplyStatically t c = (rw c.deref-in-ApplyStatically-2.ensures.value (omega (arith, ap the_size c.in-ApplyStatically.is ∙ sized-ApplyStatically c.in-ApplyStatically.position c.in-ApplyStatically.receiver c.in-ApplyStatically.class c.in-ApplyStatically.namespace c.in-ApplyStatically.method c.in-ApplyStatically.trees c.in-ApplyStatically.tpe)), tt)
