-- Members that run on receivers, and constructors: what is asked of each, so that a call of it and of its function are alike.
use Rattle.std.specs.Prelude.{◌≡◌, false, ◌∷◌, Some, None}
use Rattle.dispatch_laws.specs.World.{member_of}
use Rattle.js_mean.specs.Meaning as js_meaning
use Rattle.js_tree.specs.Terms.{Name}
use Rattle.sj_core.specs.Terms as core
use Rattle.agree_bodies.specs.Desugar.{is_mutable_in, names_of, body_code, completed}
use Rattle.agree_bodies.specs.Plain.{is_no_type}
use Rattle.dispatch_laws.specs.Templates.{member_name, statement_templates}
use Rattle.sj_names.specs.declared.method_names.Member.{Member}
use Rattle.sj_names.specs.declared.method_names.Namespace.{Namespace}
use Rattle.sj_names.specs.declared.method_names.Namespace.TheVariants.{Constructor}
use Rattle.sj_trees.specs.Term.{Term}
use Rattle.sj_trees.specs.declared.classes.MethodDef.{MethodDef}
use Rattle.agree_bodies.specs.Methods.{HaveTypes, KeepsRules}
use Rattle.agree_bodies.specs.Settings.{Place, a_method, a_constructor, Reaches}
use Rattle.agree_bodies.specs.Standing.{call_type}
use Rattle.agree_calls.specs.Methods.{parameters_in}
use Rattle.sj_trees.specs.declared.types.IrType.{IrType}
use Rattle.sj_trees.specs.declared.types.IrType.TheVariants.{NoType}

-- the emitted function of a method that runs on a receiver, with this body, in this file: the receiver is its first parameter
abbrev pub function_on : Place → Name → MethodDef → core.Statements → js_meaning.Code
function_on p f d ss = record { parameters = p.name core.receiver ∷ parameters_in p (names_of d.params); body = statement_templates p.name p.label (p.has f).lookup ss }

-- the body of a method with this tree, and that of a constructor, which gives the object that it ran on
abbrev pub body_of : MethodDef → Term → core.Statements
body_of d e = body_code (is_mutable_in d e) d.result e

abbrev pub constructor_body : MethodDef → Term → core.Statements
constructor_body d e = core.followed (body_code (is_mutable_in d e) d.result e) (core.statement (core.return_of None (core.variable_use core.receiver)) core.no_statements)

-- the function of a constructor gives the object that it ran on behind its body, which the value of a body that has one passes by
abbrev pub PassesObject : Namespace → IrType → Type 0
PassesObject Constructor t = is_no_type t ≡ false
PassesObject _ t = Unit {0}

-- a member that runs on a receiver, with a body that keeps the rules, whose function stands in its file
pub record RunsOn (p : Place) (m : Member) : Type 0 where
  pub definition : MethodDef
  pub its_body : Term
  pub found : member_of p.classes m.class m.namespace m.method ≡ Some definition
  pub has_body : definition.body ≡ Some its_body
  pub parameters : HaveTypes definition.params m.method.params
  pub result_is : definition.result ≡ call_type m.method.result
  pub emitted : js_meaning.code_of p.program (p.home (a_method m)) (member_name m) ≡ Some (function_on p (p.home (a_method m)) definition (completed definition.namespace (body_of definition its_body)))
  pub passes : PassesObject definition.namespace definition.result
  pub rules : KeepsRules p.typing (p.has (p.home (a_method m))) m.class definition its_body
  pub reaches : Reaches p (p.home (a_method m))

-- a constructor: its body's value is given up
pub record Constructs (p : Place) (m : Member) : Type 0 where
  pub definition : MethodDef
  pub its_body : Term
  pub found : member_of p.classes m.class m.namespace m.method ≡ Some definition
  pub has_body : definition.body ≡ Some its_body
  pub parameters : HaveTypes definition.params m.method.params
  pub result_is : definition.result ≡ NoType
  pub emitted : js_meaning.code_of p.program (p.home (a_constructor m)) (member_name m) ≡ Some (function_on p (p.home (a_constructor m)) definition (constructor_body definition its_body))
  pub rules : KeepsRules p.typing (p.has (p.home (a_constructor m))) m.class definition its_body
  pub reaches : Reaches p (p.home (a_constructor m))
