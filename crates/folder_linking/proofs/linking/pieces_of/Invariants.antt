use Rattle.std.proofs.Common.{◌≡◌, map}
use Rattle.folder_linking.specs.Functions.{piece}
use Rattle.folder_linking.proofs.linking.pieces_of.Given as goal

abbrev pub invariant-loop-function : goal.invariant-loop-function
invariant-loop-function l = map piece l.yielded ≡ l.pieces.items
