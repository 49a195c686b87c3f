-- What is answered of a folder.
use Rattle.std.specs.Prelude.{◌≡◌, ℕ, List, Result, Ok, Err}
use Rattle.sj_names.specs.declared.entry_points.EntryPoint.{EntryPoint}
use Rattle.sj_names.specs.declared.folders.SourceFile.{SourceFile}
use Rattle.sj_world.specs.Known.{Classes}
use Rattle.sj_world.specs.Linked.{Linked}
use Rattle.sj_world.specs.Refusals.{IsWorldOf}
use Rattle.sj_world.specs.declared.facts.Fact.{Fact}
use Rattle.sj_reach.specs.Answers.{AreReachable}
use Rattle.sj_baselink_spec.specs.Entries.{AreEntries}
use Rattle.folder_sizes.specs.Sizes.{IsTooLarge}
use Rattle.folder_sizes.specs.Files.{sizes}
use Rattle.folder_judging_spec.specs.Stages.{AreRead, KeepRules}
use Rattle.folder_judging_spec.specs.Verdicts.{Verdict, accepted}
use Rattle.folder_judging.specs.declared.errors.JudgeError.{JudgeError}
use Rattle.folder_judging.specs.Refusals.{IsRefusal}

-- a stage accepts, and this is known then; or it refuses, or no memory was left
abbrev pub Judges : (Verdict → Type 0) → (Linked → Type 0) → Result Linked JudgeError → Type 0
Judges By Known (Ok l) = By accepted × Known l
Judges By Known (Err e) = IsRefusal By e

-- the world of these classes, which keep the local rules
pub record IsKeptWorld (classes w : Classes) : Type 0 where
  pub world : IsWorldOf classes w
  pub kept : KeepRules classes

module _ (entries : List EntryPoint) where
  -- the world w with all that is reachable in it and its method entries
  pub record IsLinked (w : Classes) (l : Linked) : Type 0 where
    pub world : l.world ≡ w
    pub reached : AreReachable w entries l.facts
    pub method_entries : AreEntries w l.facts l.entries

  -- the same of the world of these classes
  pub record IsLinkedOf (classes : Classes) (l : Linked) : Type 0 where
    pub world : IsWorldOf classes l.world
    pub linked : IsLinked l.world l

  -- and of the classes of these files
  pub record IsLinkedFolder (files : List SourceFile) (l : Linked) : Type 0 where
    pub classes : Classes
    pub read : AreRead files classes
    pub linked : IsLinkedOf classes l

  -- the facts that are reachable in the world of these classes, which keep the local rules
  pub record AreFactsOf (classes : Classes) (facts : List Fact) : Type 0 where
    pub w : Classes
    pub world : IsKeptWorld classes w
    pub reached : AreReachable w entries facts

  -- and in that of the classes of these files
  pub record AreFactsRead (files : List SourceFile) (facts : List Fact) : Type 0 where
    pub classes : Classes
    pub read : AreRead files classes
    pub known : AreFactsOf classes facts

  -- and these files aren't too large: so no stage before the types refuses them
  pub record AreFactsIn (files : List SourceFile) (facts : List Fact) : Type 0 where
    pub small : (place : ℕ) → IsTooLarge (sizes files) place → ⊥
    pub facts_read : AreFactsRead files facts
