use Rattle.std.proofs.Common.{rules}
use Rattle.std.specs.Cmp.Lexicographic.{nat_list_cmp_total}
use Rattle.std.proofs.lemmas.List.Sorted.{ranks_by, answers_always}
use Rattle.sj_split.specs.declared.modules.Filed.{Filed}
use Rattle.sj_split.proofs.Sorted.{is_lower, filed_sorted, files_sorted}
use Rattle.sj_split.proofs.modules.in_order_of_files.Goals as goal

pub returns-clause-exact : goal.returns-clause-exact
returns-clause-exact c = filed_sorted c.args.modules.items c.in_ok-filed.filed.items c.sort_unstable_by.new.self.items c.in_ok-list.list.items c.in_ok-filed.ensures.modules c.sort_unstable_by.ensures.permutation c.in_ok-list.ensures

pub returns-clause-in_order : goal.returns-clause-in_order
returns-clause-in_order c = files_sorted c.in_ok-filed.filed.items c.sort_unstable_by.new.self.items c.in_ok-list.list.items c.in_ok-filed.ensures.files c.sort_unstable_by.ensures.permutation (c.sort_unstable_by.ensures.sorted is_lower (ranks_by nat_list_cmp_total (λ (f : Filed). f.file)) (answers_always _ _ _ (λ f a r g called. search rules))) c.in_ok-list.ensures
