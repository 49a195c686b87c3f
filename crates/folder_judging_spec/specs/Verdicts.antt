-- The verdict on a folder: the first stage that finds something refuses it, with a code and a place.
use Rattle.std.specs.Prelude.{◌≡◌, ℕ, List, ◌++◌, Some, codes, decimal, slice_get}
use Rattle.folder_sizes.specs.Sizes.{IsTooLarge, IsFirstTooLarge}
use Rattle.sj_names.specs.declared.entry_points.EntryPoint.{EntryPoint}
use Rattle.sj_names.specs.declared.folders.SourceFile.{SourceFile}
use Rattle.sj_trees.specs.Refusals.{number_of}
use Rattle.sj_world.specs.Known.{Name, Classes}
use Rattle.sj_world.specs.Paths.{IsFirst}
use Rattle.sj_world.specs.Refusals.{IsTwice, IsLeastTwice, IsCyclic, IsWorldOf}
use Rattle.sj_reach.specs.Reachable.{Unresolved}
use Rattle.sj_reach.specs.Refusals.{Refusal}
use Rattle.sj_reach.specs.Answers.{IsLeastTold}
use Rattle.sj_reach.specs.declared.findings.Report.{Report}
use Rattle.folder_sizes.specs.Files.{sizes}
use Rattle.folder_judging_spec.specs.Stages.{HasFault, AreRead, IsLeastBroken, KeepRules, IsLeastUntyped, AreTyped}

pub data Verdict : Type 0 where
  accepted : Verdict
  refused : ℕ → List ℕ → Verdict

module _ (entries : List EntryPoint) where
  -- types: 20 at the least body that isn't typed
  pub data ByTypes (w : Classes) : Verdict → Type 0 where
    untyped : (spelled : List ℕ) (rule : ℕ) → IsLeastUntyped w entries spelled rule → ByTypes w (refused 20 (spelled ++ codes " " ++ decimal rule))
    typed : AreTyped w entries → ByTypes w accepted

  -- references: 12 to 16 at the least place
  pub data ByReferences (w : Classes) : Verdict → Type 0 where
    unresolved : (told : Report) → IsLeastTold w entries told → ByReferences w (refused told.code told.place)
    resolved : (v : Verdict) → ((r : Refusal) → Unresolved w entries r → ⊥) → ByTypes w v → ByReferences w v

  -- cycles: 17 at the least class that stands above itself
  pub data ByCycles (classes : Classes) : Verdict → Type 0 where
    cyclic : (name : Name) → IsCyclic classes name → ByCycles classes (refused 17 name)
    acyclic : (w : Classes) (v : Verdict) → IsWorldOf classes w → ByReferences w v → ByCycles classes v

  -- local rules: 19 at the least class that breaks one
  pub data ByLocalRules (classes : Classes) : Verdict → Type 0 where
    broken : (name : Name) (rule : ℕ) → IsLeastBroken classes name rule → ByLocalRules classes (refused 19 (name ++ codes " " ++ decimal rule))
    kept : (v : Verdict) → KeepRules classes → ByCycles classes v → ByLocalRules classes v

  -- names: 11 at the least that two classes have
  pub data ByNames (classes : Classes) : Verdict → Type 0 where
    twice : (name : Name) → IsLeastTwice classes name → ByNames classes (refused 11 name)
    apart : (v : Verdict) → ((name : Name) → IsTwice classes name → ⊥) → ByLocalRules classes v → ByNames classes v

  -- files: 1 to 10 at the first that isn't a class file
  pub data ByFiles (files : List SourceFile) : Verdict → Type 0 where
    faulty : (file : SourceFile) (fault : HasFault file) → IsFirst HasFault files file → ByFiles files (refused (number_of fault.code) (file.path ++ codes ":" ++ decimal fault.place))
    read : (classes : Classes) (v : Verdict) → AreRead files classes → ByNames classes v → ByFiles files v

  -- sizes: 18 at the first file at which the folder is too large
  pub data IsVerdict (files : List SourceFile) : Verdict → Type 0 where
    too_large : (place : ℕ) (file : SourceFile) → IsFirstTooLarge (sizes files) place → slice_get files place ≡ Some file → IsVerdict files (refused 18 file.path)
    small : (v : Verdict) → ((place : ℕ) → IsTooLarge (sizes files) place → ⊥) → ByFiles files v → IsVerdict files v
