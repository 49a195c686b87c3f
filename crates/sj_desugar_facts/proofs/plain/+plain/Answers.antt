use Rattle.std.proofs.Common.{◌∙◌, ap, arith}
use Rattle.sj_desugar_facts.proofs.plain.+plain.Goals as goal
use Rattle.sj_trees.proofs.trees.Tree.TheLaws.{the_size}
use Rattle.sj_trees.specs.declared.trees.Tree.TheViews.{sized-Apply, sized-ApplyStatically}

pub is_plain-are_plain-requires-then-is_plain-3 : goal.is_plain-are_plain-requires-then-is_plain-3
is_plain-are_plain-requires-then-is_plain-3 t c = (rw c.deref-then-is_plain-3.ensures.value (omega (arith, ap the_size c.in-Apply.is ∙ sized-Apply c.in-Apply.position c.in-Apply.receiver c.in-Apply.method c.in-Apply.trees c.in-Apply.tpe)), tt)

pub is_plain-are_plain-requires-then-is_plain-4 : goal.is_plain-are_plain-requires-then-is_plain-4
is_plain-are_plain-requires-then-is_plain-4 t c = (rw c.deref-then-is_plain-4.ensures.value (omega (arith, ap the_size c.in-ApplyStatically.is ∙ sized-ApplyStatically c.in-ApplyStatically.position c.in-ApplyStatically.receiver c.in-ApplyStatically.class c.in-ApplyStatically.namespace c.in-ApplyStatically.method c.in-ApplyStatically.trees c.in-ApplyStatically.tpe)), tt)
