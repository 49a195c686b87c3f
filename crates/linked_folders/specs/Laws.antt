-- Laws of the pieces of accepted folders.
use Rattle.std.specs.Prelude.{◌≡◌, ◌↔◌, List}
use Rattle.std.specs.List.{Contains}
use Rattle.declared_pieces.specs.Accepted.{IsAccepted}
use Rattle.declared_pieces.specs.Bodies.{AreBodies}
use Rattle.declared_pieces.specs.Closed.{IsClosed}
use Rattle.declared_pieces.specs.EmittedMethods.{EmittedMethod}
use Rattle.declared_pieces.specs.Entries.{AreEntries, IsLive}
use Rattle.declared_pieces.specs.Pieces.{AreLinkedPieces}
use Rattle.declared_pieces.specs.Reachable.{Reachable}
use Rattle.declared_pieces.specs.Running.{CanRun}
use Rattle.js_tree.specs.Terms.{Piece}
use Rattle.sj_names.specs.declared.entry_points.EntryPoint.{EntryPoint}
use Rattle.sj_names.specs.declared.folders.SourceFile.{SourceFile}
use Rattle.sj_world.specs.Known.{Name, Classes}
use Rattle.sj_world.specs.Linked.{Linked}
use Rattle.sj_world.specs.declared.facts.Fact.{Fact}
use Rattle.linked_folders.specs.Link.{ArePieces}

-- the classes of an accepted folder have one list of pieces at most
abbrev pub PiecesAreOne : Type 0
PiecesAreOne = (entries : List EntryPoint) (files : List SourceFile) (w : Classes) (ps qs : List Piece) → IsAccepted entries files w → ArePieces w entries ps → ArePieces w entries qs → ps ≡ qs

-- the live classes, and that what is written can run
pub record Runs (entries : List EntryPoint) (l : Linked) (all : List EmittedMethod) (ps : List Piece) (p : AreLinkedPieces l all ps) (written : List Name) : Type 0 where
  pub live : List Name
  pub are_live : (c : Name) → Contains live c ↔ IsLive l.world l.facts c
  pub can_run : CanRun l.world entries l.facts all live p.helpers written

-- of the pieces of an accepted folder, what is written can run, where it uses nothing but what is written
abbrev pub WrittenPiecesRun : Type 0
WrittenPiecesRun = (entries : List EntryPoint) (files : List SourceFile) (l : Linked) (all : List EmittedMethod) (ps : List Piece)
    → IsAccepted entries files l.world
    → AreBodies l.world entries all
    → ((f : Fact) → Contains l.facts f ↔ Reachable l.world entries f)
    → (p : AreLinkedPieces l all ps)
    → AreEntries l.world l.facts l.entries
    → (written : List Name)
    → IsClosed ps written
    → Runs entries l all ps p written
