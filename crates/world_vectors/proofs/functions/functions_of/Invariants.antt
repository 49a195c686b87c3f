use Rattle.std.proofs.Common.{map}
use Rattle.std.specs.Prelude.{All}
use Rattle.js_tree.specs.Rules.{IsPiece}
use Rattle.js_tree.specs.Views.{piece_view}
use Rattle.world_vectors.proofs.functions.functions_of.Given as goal

abbrev pub invariant-loop-fact : goal.invariant-loop-fact
invariant-loop-fact l = All IsPiece (map piece_view l.functions.items)
