-- Methods that are linked, what is asked of each, and when the calls of one and of its function are alike.
use Rattle.std.specs.Prelude.{◌≡◌, ℕ, false, List, [], ◌∷◌, Some, None}
use Rattle.sj_trees.specs.declared.types.IrType.{IrType}
use Rattle.js_tree.specs.Terms.{Name}
use Rattle.outcomes.specs.Outcome.{Out}
use Rattle.outcomes.specs.Agreement.{forward, backward, Enough, Sim}
use Rattle.dispatch_laws.specs.Meaning as ir_meaning
use Rattle.dispatch_laws.specs.States as ir
use Rattle.dispatch_laws.specs.World.{member_of}
use Rattle.js_mean.specs.Meaning as js_meaning
use Rattle.js_mean.specs.States as js
use Rattle.sj_core.specs.Terms.{named}
use Rattle.agree_bodies.specs.Desugar.{desugared}
use Rattle.dispatch_laws.specs.Templates.{member_name, statement_templates}
use Rattle.sj_names.specs.declared.method_names.Member.{Member}
use Rattle.sj_names.specs.declared.method_names.MethodName.{MethodName}
use Rattle.sj_trees.specs.Term.{Term}
use Rattle.sj_trees.specs.declared.classes.MethodDef.{MethodDef}
pub use Rattle.agree_bodies.specs.Locals.{parameters_of}
pub use Rattle.agree_bodies.specs.Locals.{IsParameter}
use Rattle.agree_bodies.specs.Methods.{KeepsRules, HaveTypes}
use Rattle.agree_bodies.specs.Settings.{Place, a_function, function_call, Reaches, Valued}
use Rattle.agree_bodies.specs.Worlds.{World}
use Rattle.agree_bodies.specs.Standing.{call_type}

-- the parameters of a function
abbrev pub parameters_in : Place → List (List ℕ) → List Name
parameters_in p [] = []
parameters_in p (x ∷ xs) = p.name (named x) ∷ parameters_in p xs

-- the emitted function of a method with this body, in this file
abbrev pub function_of : Place → Name → MethodDef → Term → js_meaning.Code
function_of p f d e = record { parameters = parameters_in p (desugared d e).params; body = statement_templates p.name p.label (p.has f).lookup (desugared d e).body }

-- a member of the classes with the types that its name tells and a body that keeps the rules by what the code of its file can use, whose function stands
-- in that file; and what can be used there is reached there
pub record Linked (p : Place) (m : Member) : Type 0 where
  pub definition : MethodDef
  pub its_body : Term
  pub found : member_of p.classes m.class m.namespace m.method ≡ Some definition
  pub has_body : definition.body ≡ Some its_body
  pub parameters : HaveTypes definition.params m.method.params
  pub result_is : definition.result ≡ call_type m.method.result
  pub emitted : js_meaning.code_of p.program (p.home (a_function m)) (member_name m) ≡ Some (function_of p (p.home (a_function m)) definition its_body)
  pub rules : KeepsRules p.typing (p.has (p.home (a_function m))) m.class definition its_body
  pub reaches : Reaches p (p.home (a_function m))

-- a call of a member by the IR, and a call of its function, with a bound on what its body does
abbrev pub ir_call : Place → Member → List ir.Value → ir.Env → ir.State → ℕ → Out ir.Ended
ir_call p m vs env s n = ir_meaning.call (ir_meaning.below p.classes n) (member_of p.classes m.class m.namespace m.method) None vs env s

abbrev pub js_call : Place → Member → List js.Value → js.State → ℕ → Out js.ExpressionEnd
js_call p m xs u n = function_call p (js_meaning.below p.program n) m xs u

-- what the call shows within a bound the call of the function shows within each bound that is enough for it, by the room of the place; and what the
-- function shows the call shows within each bound that isn't less. Where the one is done, the other is too, with the same lines and with a value and
-- a state that stand for the one's; where it is going, its lines are the first of the other's. A call that is wrong by the IR promises nothing.
pub record CallsAgree (p : Place) (m : Member) (w : World) (vs : List ir.Value) (xs : List js.Value) (env : ir.Env) (s : ir.State) (u : js.State) : Type 0 where
  pub there : (n k : ℕ) → Enough p.room 0 forward n k → Sim forward (Valued p w env (call_type m.method.result)) (ir_call p m vs env s n) (js_call p m xs u k)
  pub back : (n k : ℕ) → Enough p.room 0 backward n k → Sim backward (Valued p w env (call_type m.method.result)) (ir_call p m vs env s n) (js_call p m xs u k)

-- the code of no file makes an object, calls a member on one, looks one up or calls one by a reflective name, reads a field, reads or sets a static field, loads or stores the one object of a class, tests or casts a value by a function, or uses a helper
pub record CallsAlone (p : Place) : Type 0 where
  pub received : (f : Name) (m : Member) → (p.has f).received m ≡ false
  pub looked : (f : Name) (c : List ℕ) (m : MethodName) → (p.has f).looked_up c m ≡ false
  pub reflected : (f : Name) (m : MethodName) → (p.has f).reflected m ≡ false
  pub built : (f : Name) (m : Member) → (p.has f).built m ≡ false
  pub made : (f : Name) (c : List ℕ) → (p.has f).made c ≡ false
  pub field : (f : Name) (c g : List ℕ) (t : IrType) → (p.has f).field c g t ≡ false
  pub static_field : (f : Name) (c g : List ℕ) (t : IrType) → (p.has f).static_field c g t ≡ false
  pub static_setter : (f : Name) (c g : List ℕ) (t : IrType) → (p.has f).static_setter c g t ≡ false
  pub modules : (f : Name) (c : List ℕ) → (p.has f).modules c ≡ false
  pub stored : (f : Name) (c : List ℕ) → (p.has f).stored c ≡ false
  pub tests : (f : Name) (t : IrType) → (p.has f).tests t ≡ false
  pub casts : (f : Name) (t : IrType) → (p.has f).casts t ≡ false
  pub on_arrays : (f : Name) (m : MethodName) → (p.has f).on_arrays m ≡ false
  pub helper : (f x : Name) → (p.has f).helper x ≡ false
