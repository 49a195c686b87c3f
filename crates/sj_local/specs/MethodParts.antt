-- What is kept of each method, for inner functions.
use Rattle.std.specs.Prelude.{◌≡◌, ℕ, Option, None}
use Rattle.sj_trees.specs.declared.classes.ClassDef.{ClassDef}
use Rattle.sj_trees.specs.declared.classes.MethodDef.{MethodDef}
use Rattle.sj_local.specs.declared.rules.Rule.{Rule}
use Rattle.sj_local.specs.declared.rules.Rule.TheVariants as rules
use Rattle.sj_local.specs.declared.findings.MethodFindings.{MethodFindings}
use Rattle.sj_local.specs.TreeRules.{DeclaresTwice}
use Rattle.sj_local.specs.WalkParts.{findings_in}

abbrev pub finding_of : Rule → MethodFindings → Option ℕ
finding_of rules.DeclaredTwice f = f.declared_twice
finding_of rules.Definition f = f.findings.definition
finding_of rules.Variable f = f.findings.variable
finding_of rules.ReturnLabel f = f.findings.return_label
finding_of rules.This f = f.findings.this
finding_of rules.StoreModule f = f.findings.store_module
finding_of rules.Target f = f.findings.target
finding_of rules.Keys f = f.findings.keys
finding_of other f = None

pub record HasFindings (c : ClassDef) (m : MethodDef) (f : MethodFindings) : Type 0 where
  pub declared : DeclaresTwice m f.declared_twice
  pub findings : f.findings ≡ findings_in c m
