use Rattle.std.proofs.Common.{rules}
use Rattle.std.proofs.lemmas.List.Sorted.{answers_always}
use Rattle.sj_baselink.proofs.Sorted.{is_lower, lower_ranks, same_entries, sorted_entries}
use Rattle.sj_baselink.proofs.ordered.sorted.Goals as goal

pub returns-clause-exact : goal.returns-clause-exact
returns-clause-exact c = same_entries c.args.entries.items c.in_ok-spelled.spelled.items c.sort_unstable_by.new.self.items c.in_ok-list.list.items c.in_ok-spelled.ensures.entries c.sort_unstable_by.ensures.permutation c.in_ok-list.ensures

pub returns-clause-in_order : goal.returns-clause-in_order
returns-clause-in_order c = sorted_entries c.in_ok-spelled.spelled.items c.sort_unstable_by.new.self.items c.in_ok-list.list.items c.in_ok-spelled.ensures.spellings c.sort_unstable_by.ensures.permutation (c.sort_unstable_by.ensures.sorted is_lower lower_ranks (answers_always _ _ _ (λ f a r g called. search rules))) c.in_ok-list.ensures
