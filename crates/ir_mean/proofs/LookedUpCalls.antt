-- A call that is looked up on a receiver whose class isn't hijacked takes instances of this class alone, and runs what the value's own class decides.
use Rattle.std.proofs.Common.{◌≡◌, ◌∙◌, Bool, false, List, Option, Some, None, ap, if◌then◌else◌}
use Rattle.ir_mean.specs.Meaning.{Low, call_method, call_virtual, call_instance, call_on, target_in, class_looked_up, looked_class, only_instance, taking}
use Rattle.ir_mean.specs.States.{Value, Env, State, Run, go_on}
use Rattle.ir_mean.specs.World.{World}
use Rattle.sj_names.specs.declared.method_names.MethodName.{MethodName}
use Rattle.sj_names.specs.declared.references.TypeRef.{TypeRef}
use Rattle.sj_trees.specs.declared.types.IrType.{IrType}
use Rattle.sj_world.specs.Calls.{receiver_class}
use Rattle.sj_world.specs.Known.{Name, is_hijacked}

module _ (w : World) (t : IrType) (m : MethodName) (c : Name) (receiver : receiver_class t ≡ Some c) (free : is_hijacked c ≡ false) (r : TypeRef) (named : m.result ≡ Some r) where
  pub calls_instance : (low : Low) → call_method w low t m m.result ≡ call_instance w low c m
  calls_instance low = ap (call_method w low t m) named ∙ ap (λ (o : Option Name). call_virtual w low o m) receiver ∙ ap {B = List Value → Run} (λ (b : Bool) (vs : List Value) (env : Env) (s : State). if b then call_on w low (target_in w (Some c) m) vs env s else call_instance w low c m vs env s) free

  pub takes_instances : (run : Run) → taking w (class_looked_up t m.result) run ≡ (λ env s. go_on (run env s) (only_instance w c))
  takes_instances run = ap (λ (o : Option Name). taking w o run) (ap (class_looked_up t) named ∙ ap looked_class receiver ∙ ap (λ (b : Bool). if b then None else Some c) free)
