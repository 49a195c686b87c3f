-- A call that is looked up on a receiver whose class is hijacked runs what this class decides, whatever the value is.
use Rattle.std.proofs.Common.{◌≡◌, ◌∙◌, Bool, true, List, Option, Some, None, refl, ap, if◌then◌else◌}
use Rattle.ir_mean.specs.Meaning.{Low, call_method, call_virtual, call_instance, call_on, target_in, class_looked_up, looked_class, static_target, taking}
use Rattle.ir_mean.specs.States.{Value, Env, State, Run}
use Rattle.ir_mean.specs.World.{World}
use Rattle.sj_names.specs.declared.method_names.MethodName.{MethodName}
use Rattle.sj_names.specs.declared.method_names.Namespace.TheVariants.{Public}
use Rattle.sj_names.specs.declared.references.TypeRef.{TypeRef}
use Rattle.sj_trees.specs.declared.types.IrType.{IrType}
use Rattle.sj_world.specs.Calls.{receiver_class}
use Rattle.sj_world.specs.Known.{Name, is_hijacked}

module _ (w : World) (low : Low) (t : IrType) (m : MethodName) (c : Name) (receiver : receiver_class t ≡ Some c) (hijacked : is_hijacked c ≡ true) where
  runs : call_virtual w low (receiver_class t) m ≡ call_on w low (static_target w c Public m)
  runs = ap (λ (o : Option Name). call_virtual w low o m) receiver ∙ ap {B = List Value → Run} (λ (b : Bool) (vs : List Value) (env : Env) (s : State). if b then call_on w low (target_in w (Some c) m) vs env s else call_instance w low c m vs env s) hijacked

  pub hijacked_call : (r : TypeRef) → m.result ≡ Some r → call_method w low t m m.result ≡ call_on w low (static_target w c Public m)
  hijacked_call r named = ap (call_method w low t m) named ∙ runs

  -- and it takes any receiver
  not_looked_up : (r : Option TypeRef) → class_looked_up t r ≡ None
  not_looked_up None = refl
  not_looked_up (Some r) = ap looked_class receiver ∙ ap (λ (b : Bool). if b then None else Some c) hijacked

  pub takes_any : (r : Run) → taking w (class_looked_up t m.result) r ≡ r
  takes_any r = ap (λ (o : Option Name). taking w o r) (not_looked_up m.result)
