-- What the laws on objects ask of a world, in the world of an accepted folder.
use Rattle.std.specs.Prelude.{List}
use Rattle.agree_classes.specs.Worlds.{AreClassesKept, WritesInterfaces}
use Rattle.folder_judging_spec.specs.Reachable.{Reachable}
use Rattle.folder_judging_spec.specs.Refusals.{HasNeededParents}
use Rattle.sj_names.specs.declared.entry_points.EntryPoint.{EntryPoint}
use Rattle.sj_names.specs.declared.folders.SourceFile.{SourceFile}
use Rattle.sj_world.specs.Known.{Name, Classes}
use Rattle.accepted_folders.specs.Accepted.{IsAccepted}

-- each class of an accepted folder keeps the rules on superclasses and on hijacked classes
abbrev pub AcceptedWorldsAreKept : Type 0
AcceptedWorldsAreKept = (entries : List EntryPoint) (files : List SourceFile) (w : Classes) → IsAccepted entries files w → AreClassesKept w

-- whatever is written as an interface by a class that is needed, by a hijacked class, or by one above it, is one
abbrev pub AcceptedWorldsWriteInterfaces : Type 0
AcceptedWorldsWriteInterfaces = (entries : List EntryPoint) (files : List SourceFile) (w : Classes) → IsAccepted entries files w → (c : Name) → HasNeededParents w entries (Reachable w entries) c → WritesInterfaces w c
