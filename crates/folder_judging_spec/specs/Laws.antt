-- Laws of verdicts.
use Rattle.std.specs.Prelude.{◌≡◌, List}
use Rattle.sj_names.specs.declared.entry_points.EntryPoint.{EntryPoint}
use Rattle.sj_names.specs.declared.folders.SourceFile.{SourceFile}
use Rattle.sj_names.specs.declared.method_names.Member.{Member}
use Rattle.sj_world.specs.Known.{Classes}
use Rattle.sj_world.specs.declared.facts.Fact.TheVariants.{Body}
use Rattle.sj_reach.specs.Reachable.{Reachable, Unresolved}
use Rattle.sj_reach.specs.Refusals.{Refusal}
use Rattle.folder_judging_spec.specs.Stages.{KeepRules, IsDefined}
use Rattle.folder_judging_spec.specs.Verdicts.{Verdict, IsVerdict}

-- a folder has one verdict at most
abbrev pub VerdictIsOne : Type 0
VerdictIsOne = (entries : List EntryPoint) (files : List SourceFile) (v w : Verdict) → IsVerdict entries files v → IsVerdict entries files w → v ≡ w

-- where each class keeps the local rules and everything resolves, each body that is needed is defined and there
abbrev pub NeededBodiesAreThere : Type 0
NeededBodiesAreThere = (w : Classes) (entries : List EntryPoint) → KeepRules w → ((r : Refusal) → Unresolved w entries r → ⊥) → (k : Member) → Reachable w entries (Body k) → IsDefined w k

-- a folder has a verdict: it can't be that none is its own. The laws of the logic decide no question by themselves, so this is said by a denial
abbrev pub NoFolderIsWithout : Type 0
NoFolderIsWithout = (entries : List EntryPoint) (files : List SourceFile) → ((v : Verdict) → IsVerdict entries files v → ⊥) → ⊥
