-- A member of the classes whose body keeps the rules.
use Rattle.std.specs.Prelude.{◌≡◌, Some}
use Rattle.dispatch_laws.specs.World.{World, member_of}
use Rattle.sj_names.specs.declared.method_names.Member.{Member}
use Rattle.sj_trees.specs.Term.{Term}
use Rattle.sj_trees.specs.declared.classes.MethodDef.{MethodDef}
use Rattle.agree_early_errors.specs.Methods.{HaveTypes, KeepsRules}
use Rattle.agree_early_errors.specs.Once.{NamesOnce}
use Rattle.agree_early_errors.specs.Standing.{call_type}
use Rattle.agree_early_errors.specs.Built.{Usable}

-- a member of the classes with a body that keeps the rules by the second classes and defines no local twice, and with the types that its name tells
pub record RightMember (w typing : World) (has : Usable) (m : Member) : Type 0 where
  pub definition : MethodDef
  pub its_body : Term
  pub found : member_of w m.class m.namespace m.method ≡ Some definition
  pub has_body : definition.body ≡ Some its_body
  pub rules : KeepsRules typing has m.class definition its_body
  pub names : NamesOnce definition its_body
  pub parameters : HaveTypes definition.params m.method.params
  pub result_is : definition.result ≡ call_type m.method.result
