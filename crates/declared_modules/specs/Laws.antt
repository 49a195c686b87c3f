-- Laws of the files of a plan.
use Rattle.std.specs.Prelude.{◌↔◌, List}
use Rattle.std.specs.List.{Contains}
use Rattle.module_uses.specs.Declared.{Declared}
use Rattle.module_uses.specs.Accepted.{IsAccepted}
use Rattle.module_uses.specs.Bodies.{AreBodies}
use Rattle.module_uses.specs.Closed.{IsClosed}
use Rattle.module_uses.specs.EmittedMethods.{EmittedMethod}
use Rattle.module_uses.specs.Entries.{AreEntries, IsLive}
use Rattle.module_uses.specs.LinkedPiecesPieces.{AreLinkedPieces}
use Rattle.module_uses.specs.Running.{CanRun}
use Rattle.module_uses.specs.LinkedPiecesUsed.{used_of}
use Rattle.sj_emit_help_spec.specs.declared.kinds.Helper.TheVariants.{ArrayClass}
use Rattle.js_tree.specs.Terms.{Name, Item, Piece}
use Rattle.module_uses.specs.Files.{AreWhole, StandTogether}
use Rattle.sj_names.specs.declared.entry_points.EntryPoint.{EntryPoint}
use Rattle.sj_names.specs.declared.folders.SourceFile.{SourceFile}
use Rattle.sj_names.specs.WellKnown.{object}
use Rattle.sj_split.specs.declared.plans.PlannedModule.{PlannedModule}
use Rattle.sj_world.specs.Linked.{Linked}
use Rattle.declared_modules.specs.Spread.{spread_of, AllStand, DeclaresConstants}

-- Take the pieces of an accepted folder, in files that have what they use. Where what is written can run, uses nothing but what is written, and stands among the items that run, and where these declare no objects but constants of classes, the
-- files declare all that their code can use.
abbrev pub ModulesDeclare : Type 0
ModulesDeclare = (entries : List EntryPoint) (files : List SourceFile) (l : Linked) (all : List EmittedMethod) (live written : List Name) (modules : List PlannedModule) (ps : List Piece) (front : List Name) (last : Name) (declared : List Item)
    → IsAccepted entries files l.world
    → AreBodies l.world entries all
    → (p : AreLinkedPieces l all ps)
    → AreEntries l.world l.facts l.entries
    → ((c : Name) → Contains live c ↔ IsLive l.world l.facts c)
    → CanRun l.world entries l.facts all live p.helpers written
    → IsClosed ps written
    → (Contains p.helpers ArrayClass → IsLive l.world l.facts object)
    → StandTogether modules ps
    → AreWhole modules ps
    → AllStand modules ps written (spread_of modules ps l.world (used_of l.world l.facts all live p.helpers written) front last declared)
    → DeclaresConstants (spread_of modules ps l.world (used_of l.world l.facts all live p.helpers written) front last declared)
    → Declared (spread_of modules ps l.world (used_of l.world l.facts all live p.helpers written) front last declared)
