-- What each stage of judging a folder finds.
use Rattle.std.specs.Prelude.{◌≡◌, ℕ, false, List, Some, None, length, slice_get, Contains, IsSome}
use Rattle.sj_names.specs.declared.entry_points.EntryPoint.{EntryPoint}
use Rattle.sj_names.specs.declared.folders.SourceFile.{SourceFile}
use Rattle.sj_names.specs.declared.method_names.Member.{Member}
use Rattle.sj_trees.specs.declared.classes.ClassDef.{ClassDef}
use Rattle.sj_trees.specs.declared.classes.MethodDef.{MethodDef}
use Rattle.sj_trees.specs.declared.refusals.Code.{Code}
use Rattle.sj_read_spec.specs.Files.{FileIs, Fails}
use Rattle.sj_local.specs.declared.rules.Where.{Where}
use Rattle.sj_local.specs.Broken.{FirstBroken}
use Rattle.sj_world.specs.Known.{Name, Classes}
use Rattle.sj_world.specs.Members.{IsMethodOf}
use Rattle.sj_world.specs.declared.facts.Fact.TheVariants.{Body}
use Rattle.sj_reach.specs.Reachable.{Reachable}
use Rattle.sj_reach.specs.Refusals.{spelled_member}
use Rattle.sj_reach.specs.Answers.{comes_first}
use Rattle.sj_reach.specs.declared.findings.Report.{Report}
use Rattle.sj_typing_verdicts.specs.Typed.{IsTyped, IsUntyped}

-- a file that isn't the file of a class, and where it fails first
pub record HasFault (file : SourceFile) : Type 0 where
  pub code : Code
  pub place : ℕ
  pub fails : Fails file.bytes code place

-- the classes of files, in their order
pub record AreRead (files : List SourceFile) (classes : Classes) : Type 0 where
  pub whole : length classes ≡ length files
  pub each : (i : ℕ) (file : SourceFile) (class : ClassDef) → slice_get files i ≡ Some file → slice_get classes i ≡ Some class → FileIs file.bytes class

-- a rule, and whom it concerns: one stands before another by the bytes of the name, and then by the rule
abbrev pub rule_at : ℕ → List ℕ → Report
rule_at rule name = record { code = rule; place = name }

-- a class of this name breaks this rule first
pub record IsBroken (classes : Classes) (name : Name) (rule : ℕ) : Type 0 where
  pub class : ClassDef
  pub among : Contains classes class
  pub name_is : class.name ≡ name
  pub place : Where
  pub first : FirstBroken class (Some (rule, place))

pub record IsLeastBroken (classes : Classes) (name : Name) (rule : ℕ) : Type 0 where
  pub broken : IsBroken classes name rule
  pub least : (other : Name) (another : ℕ) → IsBroken classes other another → comes_first (rule_at another other) (rule_at rule name) ≡ false

-- each class keeps the local rules
abbrev pub KeepRules : Classes → Type 0
KeepRules classes = (class : ClassDef) → Contains classes class → FirstBroken class None

-- the member is defined, and has a body
pub record IsDefined (w : Classes) (k : Member) : Type 0 where
  pub definition : MethodDef
  pub defined : IsMethodOf w k definition
  pub has_body : IsSome definition.body

module _ (w : Classes) (entries : List EntryPoint) where
  -- a body that is needed, with this spelling, fails to be typed first at a tree with this tag
  pub record IsUntypedBody (spelled : List ℕ) (rule : ℕ) : Type 0 where
    pub member : Member
    pub needed : Reachable w entries (Body member)
    pub definition : MethodDef
    pub defined : IsMethodOf w member definition
    pub spelled_is : spelled_member member ≡ spelled
    pub place : ℕ
    pub untyped : IsUntyped w definition rule place

  pub record IsLeastUntyped (spelled : List ℕ) (rule : ℕ) : Type 0 where
    pub untyped : IsUntypedBody spelled rule
    pub least : (other : List ℕ) (another : ℕ) → IsUntypedBody other another → comes_first (rule_at another other) (rule_at rule spelled) ≡ false

  -- each body that is needed is typed
  abbrev pub AreTyped : Type 0
  AreTyped = (member : Member) (definition : MethodDef) → Reachable w entries (Body member) → IsMethodOf w member definition → IsTyped w definition
