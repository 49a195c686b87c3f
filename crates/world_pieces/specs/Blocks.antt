-- Blocks as the code makes them.
use Rattle.std.specs.Prelude.{◌≡◌, ◌++◌, List, Contains, map, All}
use Rattle.std.specs.List.{filter}
use Rattle.js_tree.specs.Rules.{IsPiece}
use Rattle.js_tree.specs.Terms.{Piece}
use Rattle.js_tree.specs.Views.{piece_view}
use Rattle.js_tree.specs.declared.items.JsPiece.{JsPiece}
use Rattle.sj_emit_class_spec.specs.Classes.{AreClassPieces}
use Rattle.sj_names.specs.WellKnown.{is_object}
use Rattle.sj_world.specs.Known.{Name}
use Rattle.sj_world.specs.Linked.{Linked}
use Rattle.std.specs.Prelude.{if◌then◌else◌}
use Rattle.world_pieces.specs.declared.blocks.Block.{Block}
use Rattle.world_pieces.specs.Functions.{is_owned, AreByName}

-- a class has its own pieces, and those functions, in the order of their names
pub record IsMade (l : Linked) (functions : List JsPiece) (b : Block) : Type 0 where
  pub own : AreClassPieces l b.class (map piece_view b.own.items)
  pub rules : All IsPiece (map piece_view b.own.items)
  pub functions_are : AreByName functions b.functions.items

abbrev pub class_of_block : Block → Name
class_of_block b = b.class

-- a block for each of these classes; its functions are those of these that the class owns
pub record AreMade (l : Linked) (functions : List JsPiece) (names : List Name) (blocks : List Block) : Type 0 where
  pub names_are : map class_of_block blocks ≡ names
  pub each : (b : Block) → Contains blocks b → IsMade l (filter (is_owned b.class) functions) b

-- the pieces of a block
abbrev pub pieces_in : Block → List Piece
pieces_in b = map piece_view b.own.items ++ map piece_view b.functions.items

-- `java.lang.Object` has the helpers behind its own pieces
abbrev pub with_helpers_in : List Piece → Block → List Piece
with_helpers_in helpers b = if is_object b.class then pieces_in b ++ helpers else pieces_in b
