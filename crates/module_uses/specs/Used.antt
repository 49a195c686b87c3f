-- What the code of one file of a plan can use: of what is there, what the pieces of the file use.
use Rattle.std.specs.Prelude.{Bool, true, ◌&&◌, List, ◌++◌, filter}
use Rattle.std.specs.List.{list_all, list_any, flat_map}
use Rattle.running_modules.specs.Built.{Usable}
use Rattle.js_tree.specs.Terms.{Piece}
use Rattle.js_tree.specs.declared.items.Binding.{Binding}
use Rattle.sj_emit_module_spec.specs.Modules.{file_with, is_owned_in, uses_of, called_in}
use Rattle.sj_emit_expr_spec.specs.Uses.{object_binding, function_binding, class_use, static_use, setter_use, load_use, store_use, test_uses, cast_uses, base_uses, looked_up_uses, call_uses, is_same_binding}
use Rattle.sj_desugar_spec.specs.CalleeVariants as callees
use Rattle.sj_names.specs.declared.references.BaseRef.{BaseRef}
use Rattle.sj_split.specs.Orders.{Bytes}
use Rattle.sj_split.specs.declared.plans.PlannedModule.{PlannedModule}

-- what of this is used, by a test of bindings; fields have no binding
abbrev pub restricted : Usable → (Binding → Bool) → Usable
restricted has uses = record {
  linked = λ m. has.linked m && uses (function_binding m);
  lookup = has.lookup;
  received = λ m. has.received m && uses (function_binding m);
  looked_up = has.looked_up;
  dispatched = λ m. has.dispatched m && list_all uses (looked_up_uses true m);
  reflected = λ m. has.reflected m && list_all uses (call_uses has.lookup (callees.Reflective m));
  built = λ m. has.built m && uses (function_binding m);
  made = λ c. has.made c && uses (class_use c);
  live = λ c. has.live c && uses (class_use c);
  field = has.field;
  static_field = λ c f t. has.static_field c f t && uses (static_use c f);
  static_setter = λ c f t. has.static_setter c f t && uses (setter_use c f);
  modules = λ c. has.modules c && uses (load_use c);
  stored = λ c. has.stored c && uses (store_use c);
  tests = λ t. has.tests t && list_all uses (test_uses t);
  casts = λ t. has.casts t && list_all uses (cast_uses t);
  bases = λ c. has.bases c && list_all uses (base_uses (BaseRef.Class c));
  arrays = has.arrays;
  on_arrays = has.on_arrays;
  helper = λ x. has.helper x && uses (object_binding x);
  objects = has.objects;
}

-- what the pieces of a file use, and the calls in it
abbrev pub bindings_in : List PlannedModule → List Piece → Bytes → List Binding
bindings_in modules ps f = flat_map uses_of (filter (is_owned_in (file_with modules) f) ps) ++ called_in modules f

abbrev pub uses_in : List PlannedModule → List Piece → Bytes → Binding → Bool
uses_in modules ps f b = list_any (is_same_binding b) (bindings_in modules ps f)
