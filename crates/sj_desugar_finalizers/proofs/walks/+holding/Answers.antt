use Rattle.std.proofs.Common.{◌∙◌, ap, arith}
use Rattle.sj_desugar_finalizers.proofs.walks.+holding.Goals as goal
use Rattle.sj_trees.proofs.trees.Tree.TheLaws.{the_size}
use Rattle.sj_trees.specs.declared.trees.Tree.TheViews.{sized-Match, sized-Apply, sized-ApplyStatically}

pub holds_finally-cases_hold_finally-requires : goal.holds_finally-cases_hold_finally-requires
holds_finally-cases_hold_finally-requires t c = let n = c.in-Match in (rw c.deref-else-holds_finally-3.ensures.value (omega (arith, ap the_size n.is ∙ sized-Match n.position n.selector n.cases n.default n.tpe)), tt)

pub holds_finally-hold_finally-requires : goal.holds_finally-hold_finally-requires
holds_finally-hold_finally-requires t c = let n = c.in-Apply in (rw c.deref-else-holds_finally-4.ensures.value (omega (arith, ap the_size n.is ∙ sized-Apply n.position n.receiver n.method n.trees n.tpe)), tt)

pub holds_finally-hold_finally-requires-else-holds_finally-5 : goal.holds_finally-hold_finally-requires-else-holds_finally-5
holds_finally-hold_finally-requires-else-holds_finally-5 t c = let n = c.in-ApplyStatically in (rw c.deref-else-holds_finally-5.ensures.value (omega (arith, ap the_size n.is ∙ sized-ApplyStatically n.position n.receiver n.class n.namespace n.method n.trees n.tpe)), tt)
