use Rattle.std.proofs.Common.{sym, subst, rules, List}
use Rattle.std.specs.Cmp.Lexicographic.{nat_list_cmp_total}
use Rattle.std.proofs.lemmas.List.Sorted.{ranks_by, answers_always}
use Rattle.sj_trees.specs.declared.classes.ClassDef.{ClassDef}
use Rattle.sj_world.specs.Refusals.{IsLeastTwice}
use Rattle.sj_world.proofs.Twice.{is_lower, IsUpward, least_twice_given}
use Rattle.sj_world.proofs.order.in_order.Goals as goal

pub first_twice-requires : goal.first_twice-requires
first_twice-requires c = subst IsUpward (sym c.deref.ensures.value) (c.in_ok-sort_by.ensures.sorted is_lower (ranks_by nat_list_cmp_total (λ (k : ClassDef). k.name)) (answers_always _ _ _ (λ f a r g called. search rules)))

pub returns-in_ok-copied-in-Some : goal.returns-in_ok-copied-in-Some
returns-in_ok-copied-in-Some c = subst (IsLeastTwice c.args.classes.items) (sym c.in_ok-copied-in-Some.ensures) (least_twice_given c.args.classes.items c.sort_by.new.self.items c.in-Some.name.now c.sort_by.ensures.permutation (subst (λ (w : List ClassDef). IsLeastTwice w c.in-Some.name.now) c.deref.ensures.value c.in-Some.ensures))
