use Rattle.std.proofs.Common.{rules}
use Rattle.std.proofs.lemmas.List.Sorted.{answers_always, IsPermutation-map}
use Rattle.world_pieces.specs.Places.{is_before, name_of}
use Rattle.world_pieces.proofs.Placed.{ranks, sorted_classes, once_moved}
use Rattle.world_pieces.proofs.classes.classes_in_order.Goals as goal

pub returns-clause-classes : goal.returns-clause-classes
returns-clause-classes c = sorted_classes c.args.world.now c.in_ok-classes.classes.items c.sort_unstable_by.new.self.items c.in_ok-classes.ensures.places c.in_ok-classes.ensures.once c.sort_unstable_by.ensures.permutation (c.sort_unstable_by.ensures.sorted is_before ranks (answers_always _ _ _ (λ f a r g called. search rules)))

pub returns-clause-once : goal.returns-clause-once
returns-clause-once c = once_moved _ _ (IsPermutation-map name_of _ _ c.sort_unstable_by.ensures.permutation) c.in_ok-classes.ensures.once
