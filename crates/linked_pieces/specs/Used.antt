-- What the code of a linked world can use, where the pieces of some of its classes are written.
use Rattle.std.specs.Prelude.{Bool, true, false, ◌&&◌, ◌||◌, not, List, Option, Some, None}
use Rattle.std.specs.List.{list_any}
use Rattle.agree_local_rules.specs.Built.{Usable, is_static, has_kind, has_no_value}
use Rattle.agree_local_rules.specs.Uses.{is_same_binding}
use Rattle.agree_programs.specs.Targets.{has_hijacked_in, lookup_in}
use Rattle.sj_emit_help_spec.specs.Helpers.{helper_name}
use Rattle.sj_emit_help_spec.specs.Words.{helper}
use Rattle.sj_emit_help_spec.specs.declared.kinds.Helper.{Helper}
use Rattle.agree_programs.specs.Tests.{test_name, cast_name}
use Rattle.sj_infos.specs.Forms.{forms_in}
use Rattle.sj_infos.specs.declared.forms.BodyForm.{BodyForm}
use Rattle.sj_infos.specs.declared.forms.BodyForm.TheVariants.{Test, Cast, Base, Load, Store, Reflective}
use Rattle.sj_names.specs.WellKnown.{object}
use Rattle.sj_names.specs.Same.{is_same_text, is_same_method}
use Rattle.sj_names.specs.declared.method_names.Member.{Member}
use Rattle.sj_names.specs.declared.method_names.MethodName.{MethodName}
use Rattle.sj_names.specs.declared.method_names.Namespace.{Namespace}
use Rattle.sj_names.specs.declared.method_names.Namespace.TheVariants.{Public, Private, Constructor}
use Rattle.agree_programs.specs.EmittedMethods.{EmittedMethod}
use Rattle.agree_programs.specs.Linked.{has_function}
use Rattle.sj_trees.specs.SameTypes.{is_same_type}
use Rattle.sj_trees.specs.declared.classes.ClassDef.{ClassDef}
use Rattle.sj_trees.specs.declared.classes.FieldDef.{FieldDef}
use Rattle.sj_trees.specs.declared.types.IrType.{IrType}
use Rattle.sj_trees.specs.declared.types.IrType.TheVariants.{Array, Class}
use Rattle.sj_world.specs.Known.{Name, Classes, class_of}
use Rattle.sj_world.specs.declared.facts.Fact.{Fact}
use Rattle.sj_world.specs.declared.facts.Fact.TheVariants.{NeededField, Made, Called}
use Rattle.linked_pieces.specs.Pieces.{piece_of_member}
use Rattle.agree_programs.specs.Dispatch.{dispatch_name, reflective_name}

abbrev pub is_among : List Name → Name → Bool
is_among names name = list_any (is_same_text name) names

abbrev pub is_instance : Namespace → Bool
is_instance Public = true
is_instance Private = true
is_instance _ = false

abbrev pub is_constructor : Namespace → Bool
is_constructor Constructor = true
is_constructor _ = false

abbrev pub is_constructor_without_value : Member → Bool
is_constructor_without_value m = is_constructor m.namespace && has_no_value m.method.result

-- a member that is called on a receiver for what it gives: any but a static one and a constructor without a value
abbrev pub is_received : Member → Bool
is_received m = is_instance m.namespace || is_constructor m.namespace && not (has_no_value m.method.result)

-- an instance field of this name and type
abbrev pub is_its_field : Name → IrType → FieldDef → Bool
is_its_field f t d = not d.is_static && (is_same_text f d.name && is_same_type t d.tpe)

abbrev pub has_field_in : Option ClassDef → Name → IrType → Bool
has_field_in None f t = false
has_field_in (Some c) f t = list_any (is_its_field f t) c.fields

-- a static field of this name and type
abbrev pub is_its_static : Name → IrType → FieldDef → Bool
is_its_static f t d = d.is_static && (is_same_text f d.name && is_same_type t d.tpe)

abbrev pub has_static_in : Option ClassDef → Name → IrType → Bool
has_static_in None f t = false
has_static_in (Some c) f t = list_any (is_its_static f t) c.fields

-- that this static field is needed
abbrev pub needs_static : Name → Name → Fact → Bool
needs_static c f (NeededField d g is_static) = is_static && (is_same_text c d && is_same_text f g)
needs_static c f _ = false

-- the class is written, and has this static field, which is needed
abbrev pub uses_static : Classes → List Fact → List Name → Name → Name → IrType → Bool
uses_static w facts written c f t = is_among written c && (list_any (needs_static c f) facts && has_static_in (class_of w c) f t)

-- one of these helpers has this name, and is written
abbrev pub uses_helper : List Helper → List Name → Name → Bool
uses_helper helpers written x = is_among written object && list_any (λ h. is_same_text x (helper_name h)) helpers

-- one of these bodies tests for the class; one casts to it
abbrev pub is_test_for : Name → BodyForm → Bool
is_test_for c (Test d) = is_same_text c d
is_test_for c _ = false

abbrev pub is_cast_to : Name → BodyForm → Bool
is_cast_to c (Cast d) = is_same_text c d
is_cast_to c _ = false

abbrev pub is_tested : List EmittedMethod → Name → Bool
is_tested all c = list_any (λ (e : EmittedMethod). list_any (is_test_for c) (forms_in e.its_body)) all

abbrev pub is_cast : List EmittedMethod → Name → Bool
is_cast all c = list_any (λ (e : EmittedMethod). list_any (is_cast_to c) (forms_in e.its_body)) all

-- one of these bodies loads the module; one stores it
abbrev pub is_load_of : Name → BodyForm → Bool
is_load_of c (Load d) = is_same_text c d
is_load_of c _ = false

abbrev pub is_store_of : Name → BodyForm → Bool
is_store_of c (Store d) = is_same_text c d
is_store_of c _ = false

abbrev pub is_loaded : List EmittedMethod → Name → Bool
is_loaded all c = list_any (λ (e : EmittedMethod). list_any (is_load_of c) (forms_in e.its_body)) all

abbrev pub is_stored : List EmittedMethod → Name → Bool
is_stored all c = list_any (λ (e : EmittedMethod). list_any (is_store_of c) (forms_in e.its_body)) all

-- one of these bodies names the class as the base of an array
abbrev pub is_base_of : Name → BodyForm → Bool
is_base_of c (Base d) = is_same_text c d
is_base_of c _ = false

abbrev pub is_based_on : List EmittedMethod → Name → Bool
is_based_on all c = list_any (λ (e : EmittedMethod). list_any (is_base_of c) (forms_in e.its_body)) all

-- the test of a class that is written, for which bodies test or to which they cast, and those of a primitive type and of arrays among the helpers
abbrev pub uses_test : List EmittedMethod → List Helper → List Name → IrType → Bool
uses_test all helpers written (Class c) = is_among written c && (is_tested all c || is_cast all c)
uses_test all helpers written (Array r) = uses_helper helpers written (test_name (Array r))
uses_test all helpers written t = has_kind t && uses_helper helpers written (test_name t)

-- and the casts
abbrev pub uses_cast : List EmittedMethod → List Helper → List Name → IrType → Bool
uses_cast all helpers written (Class c) = is_among written c && is_cast all c
uses_cast all helpers written (Array r) = uses_helper helpers written (cast_name (Array r))
uses_cast all helpers written t = has_kind t && uses_helper helpers written (cast_name t)

-- that objects of this class are made
abbrev pub makes : Name → Fact → Bool
makes c (Made d) = is_same_text c d
makes c _ = false

-- the class is written, and objects of it are made
abbrev pub is_made : List Fact → List Name → Name → Bool
is_made facts written c = is_among written c && list_any (makes c) facts

-- that the method is called on receivers of this class; on those of any
abbrev pub calls_on : Name → MethodName → Fact → Bool
calls_on c m (Called d n) = is_same_text c d && is_same_method m n
calls_on c m _ = false

abbrev pub calls : MethodName → Fact → Bool
calls m (Called d n) = is_same_method m n
calls m _ = false

-- the method is written, and its function uses the one that tells the primitive receivers of this apart
abbrev pub uses_dispatch : Classes → List Name → MethodName → EmittedMethod → Bool
uses_dispatch w written m e = is_among written e.member.class && list_any (is_same_binding (helper (dispatch_name m))) (piece_of_member w e).uses

-- the primitive receivers of a method are told apart by a function that is written: the method is called, and a written one uses the function
abbrev pub tells_apart : Classes → List Fact → List EmittedMethod → List Name → MethodName → Bool
tells_apart w facts all written m = list_any (calls m) facts && list_any (uses_dispatch w written m) all

-- one of these bodies calls by the reflective name
abbrev pub is_reflective : MethodName → BodyForm → Bool
is_reflective p (Reflective q) = is_same_method p q
is_reflective p _ = false

abbrev pub is_called_by : List EmittedMethod → MethodName → Bool
is_called_by all p = list_any (λ (e : EmittedMethod). list_any (is_reflective p) (forms_in e.its_body)) all

-- the method is written, and its function uses that of the reflective name
abbrev pub uses_reflective : Classes → List Name → MethodName → EmittedMethod → Bool
uses_reflective w written p e = is_among written e.member.class && list_any (is_same_binding (helper (reflective_name p))) (piece_of_member w e).uses

-- receivers are called under a reflective name by a function that is written: a body calls by it, and a written one uses the function
abbrev pub calls_by_name : Classes → List EmittedMethod → List Name → MethodName → Bool
calls_by_name w all written p = is_called_by all p && list_any (uses_reflective w written p) all

-- what the code can use, of a world with these facts, methods, live classes and helpers, where the pieces of these classes are written: their members, a call of a public one running
-- its target, the methods that are called on their objects, where no hijacked class stands there or below or the function that tells primitive receivers apart is written, the reflective names of which the function is written, and their constructors that have no value, their objects, each instance field of the world, their static fields that are needed, those that a body loads as modules or stores, the helpers, and the tests of primitive
-- types and of arrays and the casts to them that are among them, and those of these classes, and these classes as the bases of arrays where a body names them so; arrays can be made where objects of the class of all are
abbrev pub used_of : Classes → List Fact → List EmittedMethod → List Name → List Helper → List Name → Usable
used_of w facts all live helpers written = record {
  linked = λ m. is_static m.namespace && (is_among written m.class && has_function all m);
  lookup = lookup_in w;
  received = λ m. is_received m && (is_among written m.class && has_function all m);
  looked_up = λ c m. list_any (calls_on c m) facts && (not (has_hijacked_in w c) || tells_apart w facts all written m);
  dispatched = tells_apart w facts all written;
  reflected = calls_by_name w all written;
  built = λ m. is_constructor_without_value m && (is_among written m.class && has_function all m);
  made = is_made facts written;
  live = λ c. is_among written c && is_among live c;
  field = λ c f t. has_field_in (class_of w c) f t;
  static_field = uses_static w facts written;
  static_setter = uses_static w facts written;
  modules = λ c. is_among written c && is_loaded all c;
  stored = λ c. is_among written c && is_stored all c;
  tests = uses_test all helpers written;
  casts = uses_cast all helpers written;
  bases = λ c. is_among written c && is_based_on all c;
  arrays = is_made facts written object;
  on_arrays = λ m. list_any (calls_on object m) facts;
  helper = uses_helper helpers written;
  objects = true;
}
