-- What is known while the local rules of classes are checked one after the other.
use Rattle.std.specs.Prelude.{ℕ, Option, Some, None}
use Rattle.sj_trees.specs.declared.classes.ClassDef.{ClassDef}
use Rattle.sj_local.specs.declared.rules.Where.{Where}
use Rattle.sj_local.specs.Broken.{FirstBroken}
use Rattle.sj_world.specs.Known.{Classes}
use Rattle.sj_reach.specs.declared.findings.Report.{Report}
use Rattle.sj_reach.specs.Answers.{first_told}
use Rattle.folder_judging_spec.specs.Stages.{rule_at, IsLeastBroken, KeepRules}

-- this is the first rule that the class breaks
pub record BreaksFirst (class : ClassDef) (rule : ℕ) : Type 0 where
  pub place : Where
  pub first : FirstBroken class (Some (rule, place))

-- the least of these classes that breaks a rule, if one does
abbrev pub IsLeastIn : Classes → Option Report → Type 0
IsLeastIn classes None = KeepRules classes
IsLeastIn classes (Some r) = IsLeastBroken classes r.place r.code

-- what was found before, and with this class
pub data IsWithClass (least : Option Report) (class : ClassDef) : Option Report → Type 0 where
  kept : FirstBroken class None → IsWithClass least class least
  broken : (rule : ℕ) → BreaksFirst class rule → IsWithClass least class (Some (first_told least (rule_at rule class.name)))
