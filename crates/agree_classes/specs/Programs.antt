-- Programs of classes that break none of the local rules, with bodies that keep the rules.
use Rattle.std.specs.Prelude.{◌≡◌, List, Some, None, IsTrue}
use Rattle.std.specs.List.{Contains}
use Rattle.sj_agree.specs.World.{World, member_of}
use Rattle.sj_local.specs.Broken.{FirstBroken}
use Rattle.sj_names.specs.Grammar.{is_class_name}
use Rattle.sj_names.specs.MethodNames.{IsMethodName}
use Rattle.sj_trees.specs.declared.classes.ClassDef.{ClassDef}
use Rattle.agree_programs.specs.EmittedMethods.{EmittedMethod}
use Rattle.agree_programs.specs.Linked.{functions_of}
use Rattle.agree_programs.specs.Methods.{KeepsRules}

-- a method of a class that breaks none of the local rules, found as that of its member: its body keeps the rules by the second classes, where calls are of the methods
-- of the program; the names of its class and of the method are in their grammar
pub record IsAccepted (w typing : World) (fs : List EmittedMethod) (e : EmittedMethod) : Type 0 where
  pub owner : ClassDef
  pub unbroken : FirstBroken owner None
  pub listed : Contains owner.methods e.definition
  pub named : e.definition.name ≡ e.member.method
  pub found : member_of w e.member.class e.member.namespace e.member.method ≡ Some e.definition
  pub has_body : e.definition.body ≡ Some e.its_body
  pub rules : KeepsRules typing (functions_of fs) e.member.class e.definition e.its_body
  pub class_name : IsTrue (is_class_name e.member.class)
  pub method_name : IsMethodName e.member.method
