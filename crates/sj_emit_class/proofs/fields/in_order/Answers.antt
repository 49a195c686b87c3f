use Rattle.std.proofs.Common.{rules}
use Rattle.std.proofs.lemmas.List.Sorted.{answers_always}
use Rattle.sj_emit_class.proofs.Parts.{is_lower, lower_ranks, are_sorted}
use Rattle.sj_emit_class.proofs.fields.in_order.Goals as goal

pub returns : goal.returns
returns c = are_sorted c.args.fields.items c.sort_unstable_by.new.self.items c.sort_unstable_by.ensures.permutation (c.sort_unstable_by.ensures.sorted is_lower lower_ranks (answers_always _ _ _ (λ f a r g called. search rules)))
