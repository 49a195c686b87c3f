-- Worked worlds: one with objects, `new A().get()`, where `get` gives a field of its object, and one with arrays, `new int[]{3}.length`.
use Rattle.std.specs.Prelude.{ℕ, pos, Bool, true, false, ◌&&◌, ◌||◌, List, [], ◌∷◌, Some, None, codes}
use Rattle.sj_core.specs.Lookup.{own_targets}
use Rattle.agree_early_errors.specs.Built.{Usable}
use Rattle.dispatch_laws.specs.Rows.{nowhere, object_name, object_with, static_method}
use Rattle.dispatch_laws.specs.World.{World}
use Rattle.agree_early_errors.specs.Desugar.{member}
use Rattle.sj_names.specs.Same.{is_same_text, is_same_namespace, is_same_method}
use Rattle.sj_names.specs.declared.method_names.Member.{Member}
use Rattle.sj_names.specs.declared.method_names.MethodName.{MethodName}
use Rattle.sj_names.specs.declared.method_names.Namespace.{Namespace}
use Rattle.sj_names.specs.declared.method_names.Namespace.TheVariants.{PublicStatic, Private, Constructor}
use Rattle.sj_names.specs.declared.references.BaseRef.{BaseRef}
use Rattle.sj_names.specs.declared.references.TypeRef.{TypeRef}
use Rattle.sj_trees.specs.SameTypes.{is_same_type}
use Rattle.sj_trees.specs.Term.{Term, no_terms, more_terms, array_value, array_length, int_literal, skip, new_object, select, apply_statically, this_ref}
use Rattle.sj_trees.specs.declared.classes.ClassDef.{ClassDef}
use Rattle.sj_trees.specs.declared.classes.ClassKind.{ClassKind}
use Rattle.sj_trees.specs.declared.classes.FieldDef.{FieldDef}
use Rattle.sj_trees.specs.declared.classes.MethodDef.{MethodDef}
use Rattle.sj_trees.specs.declared.types.IrType.{IrType}
use Rattle.sj_trees.specs.declared.types.IrType.TheVariants.{Class, Int, NoType}

abbrev pub class_name : List ℕ
class_name = codes "A"

abbrev pub field_name : List ℕ
field_name = codes "f"

abbrev pub init_name : MethodName
init_name = record { simple = codes "<init>"; params = []; result = Some TypeRef.Void }

abbrev pub get_name : MethodName
get_name = record { simple = codes "get"; params = []; result = Some TypeRef.Int }

abbrev pub object : Term
object = new_object nowhere class_name init_name no_terms

abbrev pub gets_field : Term
gets_field = select nowhere (this_ref nowhere (Class class_name)) class_name field_name Int

abbrev pub gets : Term
gets = apply_statically nowhere object class_name Private get_name no_terms Int

abbrev pub method : Namespace → MethodName → IrType → Term → MethodDef
method n m t body = record { pos = nowhere; namespace = n; name = m; params = []; result = t; body = Some body; hash = None }

abbrev pub init_method : MethodDef
init_method = method Constructor init_name NoType (skip nowhere)

abbrev pub get_method : MethodDef
get_method = method Private get_name Int gets_field

abbrev pub main_method : MethodDef
main_method = static_method (codes "main") gets

abbrev pub its_field : FieldDef
its_field = record { pos = nowhere; is_static = false; «mutable» = true; name = field_name; tpe = Int }

abbrev pub its_class : ClassDef
its_class = record { pos = nowhere; files = [] ∷ []; name = class_name; kind = ClassKind.Class; superclass = Some object_name; interfaces = []; fields = its_field ∷ []; methods = init_method ∷ get_method ∷ [] }

abbrev pub object_world : World
object_world = object_with (main_method ∷ []) ∷ its_class ∷ []

abbrev pub main_member : Member
main_member = member object_name PublicStatic main_method.name

abbrev pub is_member : Member → Member → Bool
is_member k m = is_same_text m.class k.class && (is_same_namespace m.namespace k.namespace && is_same_method m.method k.method)

-- what its bodies can use: objects of the class, and so those of the class above it
abbrev pub object_use : Usable
object_use = record {
  linked = is_member main_member;
  lookup = own_targets;
  received = is_member (member class_name Private get_name);
  looked_up = λ c m. false;
  dispatched = λ m. false;
  reflected = λ m. false;
  built = is_member (member class_name Constructor init_name);
  made = λ c. is_same_text c class_name || is_same_text c object_name;
  live = λ c. is_same_text c class_name || is_same_text c object_name;
  field = λ c f t. is_same_text c class_name && (is_same_text f field_name && is_same_type t Int);
  static_field = λ c f t. false;
  static_setter = λ c f t. false;
  modules = λ c. false;
  stored = λ c. false;
  tests = λ t. false;
  casts = λ t. false;
  bases = λ c. false;
  arrays = false;
  on_arrays = λ m. false;
  helper = λ x. false;
  objects = true;
}

-- an array that is given with its one item, and its length
abbrev pub items : Term
items = array_value nowhere (record { base = BaseRef.Int; dimensions = 1 }) (more_terms (int_literal nowhere (pos 3)) no_terms)

abbrev pub counts : Term
counts = array_length nowhere items

abbrev pub counting_method : MethodDef
counting_method = static_method (codes "main") counts

abbrev pub array_world : World
array_world = object_with (counting_method ∷ []) ∷ []

-- what its body can use: arrays, the helper that gives items, and so objects of the class of all
abbrev pub array_use : Usable
array_use = record {
  linked = is_member main_member;
  lookup = own_targets;
  received = λ m. false;
  looked_up = λ c m. false;
  dispatched = λ m. false;
  reflected = λ m. false;
  built = λ m. false;
  made = is_same_text object_name;
  live = is_same_text object_name;
  field = λ c f t. false;
  static_field = λ c f t. false;
  static_setter = λ c f t. false;
  modules = λ c. false;
  stored = λ c. false;
  tests = λ t. false;
  casts = λ t. false;
  bases = λ c. false;
  arrays = true;
  on_arrays = λ m. false;
  helper = is_same_text (codes "$A");
  objects = true;
}
