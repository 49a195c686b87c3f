use Rattle.std.proofs.Common.{take, map}
use Rattle.world_pieces.specs.Places.{ArePlaces, class_name}
use Rattle.world_pieces.proofs.classes.places_of.Given as goal

abbrev pub invariant-loop-class : goal.invariant-loop-class
invariant-loop-class l = ArePlaces l.world (take l.class-index (map class_name l.classes)) l.places.items
