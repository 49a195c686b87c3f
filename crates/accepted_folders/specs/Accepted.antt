-- What a folder has that is accepted.
use Rattle.std.specs.Prelude.{ℕ, List}
use Rattle.folder_sizes.specs.Sizes.{IsTooLarge}
use Rattle.sj_names.specs.declared.entry_points.EntryPoint.{EntryPoint}
use Rattle.sj_names.specs.declared.folders.SourceFile.{SourceFile}
use Rattle.sj_world.specs.Known.{Name, Classes}
use Rattle.sj_world.specs.Refusals.{IsTwice, IsWorldOf}
use Rattle.folder_judging_spec.specs.Reachable.{Unresolved}
use Rattle.folder_judging_spec.specs.Refusals.{Refusal}
use Rattle.folder_sizes.specs.Files.{sizes}
use Rattle.folder_judging_spec.specs.Stages.{AreRead, KeepRules, AreTyped}

-- the world of a folder that is accepted: its files aren't too large and are those of classes, of which no two have one name and each keeps the
-- local rules; the world has these classes, in the order of their names; what is reachable in it resolves, and each body that is needed is typed
pub record IsAccepted (entries : List EntryPoint) (files : List SourceFile) (w : Classes) : Type 0 where
  pub small : (place : ℕ) → IsTooLarge (sizes files) place → ⊥
  pub classes : Classes
  pub read : AreRead files classes
  pub apart : (name : Name) → IsTwice classes name → ⊥
  pub kept : KeepRules classes
  pub world : IsWorldOf classes w
  pub resolved : (r : Refusal) → Unresolved w entries r → ⊥
  pub typed : AreTyped w entries
