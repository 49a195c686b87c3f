use Rattle.std.proofs.Common.{rules}
use Rattle.std.proofs.lemmas.List.Sorted.{answers_always}
use Rattle.world_pieces.specs.Functions.{has_lesser_name}
use Rattle.world_pieces.proofs.Linked.{name_ranks}
use Rattle.world_pieces.proofs.functions.in_order.Goals as goal

pub returns : goal.returns
returns c = record { same = c.sort_unstable_by.ensures.permutation; in_order = c.sort_unstable_by.ensures.sorted has_lesser_name name_ranks (answers_always _ _ _ (λ f a r g called. search rules)) }
