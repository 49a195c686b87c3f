use Rattle.std.proofs.Common.{rules}
use Rattle.std.specs.Cmp.Lexicographic.{nat_list_cmp_total}
use Rattle.std.proofs.lemmas.List.Sorted.{ranks_by, answers_always}
use Rattle.folder_judging.specs.Bodies.{is_spelled_before}
use Rattle.folder_judging.specs.declared.bodies.SpelledBody.{SpelledBody}
use Rattle.folder_judging.proofs.Spelled.{in_order}
use Rattle.folder_judging.proofs.bodies.bodies_in_order.Goals as goal

pub returns : goal.returns
returns c = in_order c.args.facts.now c.in_ok-bodies.bodies.items c.sort_by.new.self.items c.in_ok-bodies.ensures c.sort_by.ensures.permutation (c.in_ok-sort_by.ensures.sorted is_spelled_before (ranks_by nat_list_cmp_total (λ (b : SpelledBody). b.spelled)) (answers_always _ _ _ (λ f a r g called. search rules)))
