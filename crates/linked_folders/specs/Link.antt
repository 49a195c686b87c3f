-- The pieces that the classes of a folder come to.
use Rattle.std.specs.Prelude.{◌↔◌, List}
use Rattle.std.specs.List.{Contains}
use Rattle.declared_pieces.specs.Entries.{IsLinked}
use Rattle.js_tree.specs.Terms.{Piece}
use Rattle.declared_pieces.specs.Pieces.{AreLinkedPieces}
use Rattle.declared_pieces.specs.Reachable.{Reachable}
use Rattle.sj_names.specs.declared.entry_points.EntryPoint.{EntryPoint}
use Rattle.declared_pieces.specs.EmittedMethods.{EmittedMethod}
use Rattle.sj_world.specs.Known.{Classes}
use Rattle.sj_world.specs.Linked.{Linked}
use Rattle.sj_world.specs.declared.facts.Fact.{Fact}
use Rattle.declared_pieces.specs.Bodies.{AreBodies}

-- the pieces of the classes: those of the linked world of what is reachable, with the functions of all needed bodies
pub record ArePieces (w : Classes) (entries : List EntryPoint) (ps : List Piece) : Type 0 where
  pub all : List EmittedMethod
  pub bodies : AreBodies w entries all
  pub facts : List Fact
  pub are_facts : (f : Fact) → Contains facts f ↔ Reachable w entries f
  pub linked : Linked
  pub is_linked : IsLinked w facts linked
  pub are : AreLinkedPieces linked all ps
