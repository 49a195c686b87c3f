-- Laws of the method entries of accepted folders.
use Rattle.std.specs.Prelude.{◌≡◌, ◌↔◌, List, Contains}
use Rattle.accepted_folders.specs.Accepted.{IsAccepted}
use Rattle.accepted_folders.specs.Entries.{AreEntries}
use Rattle.accepted_folders.specs.Reachable.{Reachable}
use Rattle.sj_names.specs.declared.entry_points.EntryPoint.{EntryPoint}
use Rattle.sj_names.specs.declared.folders.SourceFile.{SourceFile}
use Rattle.sj_world.specs.Known.{Classes}
use Rattle.sj_world.specs.declared.facts.Fact.{Fact}
use Rattle.sj_world.specs.declared.linked.MethodEntry.{MethodEntry}

-- of the same facts, which are reachable, the classes of an accepted folder have one list of method entries
abbrev pub EntriesAreOne : Type 0
EntriesAreOne = (entries : List EntryPoint) (files : List SourceFile) (w : Classes)
    → IsAccepted entries files w
    → (facts more : List Fact)
    → ((f : Fact) → Contains facts f → Reachable w entries f)
    → ((f : Fact) → Contains facts f ↔ Contains more f)
    → (one other : List MethodEntry)
    → AreEntries w facts one
    → AreEntries w more other
    → one ≡ other
