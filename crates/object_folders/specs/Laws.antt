-- Laws of accepted folders of which the pieces of some classes are written.
use Rattle.std.specs.Prelude.{◌≡◌, true, List}
use Rattle.linked_entries.specs.Accepted.{IsAccepted}
use Rattle.linked_entries.specs.Bodies.{AreBodies}
use Rattle.linked_entries.specs.Rules.{RightMember}
use Rattle.linked_entries.specs.Worlds.{ObjectWorld}
use Rattle.sj_emit_help_spec.specs.declared.kinds.Helper.{Helper}
use Rattle.linked_entries.specs.Used.{used_of}
use Rattle.object_folders.specs.Running.{CanRun}
use Rattle.sj_names.specs.declared.entry_points.EntryPoint.{EntryPoint}
use Rattle.sj_names.specs.declared.folders.SourceFile.{SourceFile}
use Rattle.sj_names.specs.declared.method_names.Member.{Member}
use Rattle.linked_entries.specs.EmittedMethods.{EmittedMethod}
use Rattle.sj_world.specs.Known.{Name, Classes}
use Rattle.sj_world.specs.declared.facts.Fact.{Fact}

-- where what is written can run, the world of an accepted folder has what the laws on objects ask
abbrev pub AcceptedFoldersCarryObjects : Type 0
AcceptedFoldersCarryObjects = (entries : List EntryPoint) (files : List SourceFile) (w : Classes) (facts : List Fact) (all : List EmittedMethod) (live : List Name) (helpers : List Helper) (written : List Name)
    → IsAccepted entries files w
    → AreBodies w entries all
    → CanRun w entries facts all live helpers written
    → ObjectWorld w (used_of w facts all live helpers written)

-- and the static members that are linked there keep the rules
abbrev pub AcceptedFoldersLinkRightMembers : Type 0
AcceptedFoldersLinkRightMembers = (entries : List EntryPoint) (files : List SourceFile) (w : Classes) (facts : List Fact) (all : List EmittedMethod) (live : List Name) (helpers : List Helper) (written : List Name)
    → IsAccepted entries files w
    → AreBodies w entries all
    → CanRun w entries facts all live helpers written
    → (m : Member) → (used_of w facts all live helpers written).linked m ≡ true → RightMember w w (used_of w facts all live helpers written) m
