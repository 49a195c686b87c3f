-- The worked world with objects, `new A().get()`, as three files: one has `java.lang.Object`, one has the class, and one has `main` and calls it.
use Rattle.std.specs.Prelude.{List, [], ◌∷◌, map, pos, codes, false, true, ◌&&◌, if◌then◌else◌, Some}
use Rattle.agree_soundness.specs.Worked.{class_name, field_name, init_name, get_name, object_world, main_member, is_member}
use Rattle.agree_body_forms.specs.Built.{Usable, members_alone}
use Rattle.ir_mean.specs.Rows.{object_name, once}
use Rattle.js_mean.specs.Shows.{file_of}
use Rattle.js_mean.specs.States.{Program}
use Rattle.js_tree.specs.Names.{is_same_text}
use Rattle.js_tree.specs.Terms.{Name, number_literal, text_literal, name_use, this_use, property_of, call_of, new_of, Expression, no_expressions, expression, expression_statement, assign_property, super_call, return_of, Statement, Property, constructor_of, Item, object_item, function_item, class_item, subclass_item, Module}
use Rattle.js_tree.specs.Views.{statements_of}
use Rattle.sj_core.specs.Lookup.{own_targets}
use Rattle.sj_desugar_spec.specs.Desugar.{member}
use Rattle.sj_names.specs.declared.method_names.Namespace.TheVariants.{Private, Constructor}
use Rattle.file_declarations.specs.Settings.{Top, a_function, a_class, some_constants}
use Rattle.agree_soundness.specs.Emitted.{call_item_of}
use Rattle.sj_trees.specs.SameTypes.{is_same_type}
use Rattle.sj_trees.specs.declared.types.IrType.TheVariants.{Int}
use Rattle.declared_files.specs.Declared.{Spread}

-- `s: "x"`, and `x: 1`
abbrev pub own_mark : Name → Property
own_mark x = record { name = codes "s"; value = text_literal x }

abbrev pub mark : Name → Property
mark x = record { name = x; value = number_literal (pos 1) }

-- `this.x = e;`
abbrev pub sets : Name → Expression → Statement
sets x e = assign_property this_use x e

-- `const k_java_lang_Object = {s: "i_java_lang_Object", i_java_lang_Object: 1};`
abbrev pub object_constants : Item
object_constants = object_item (codes "k_java_lang_Object") (own_mark (codes "i_java_lang_Object") ∷ mark (codes "i_java_lang_Object") ∷ [])

-- `class c_java_lang_Object { constructor() { this.k = k_java_lang_Object; } }`
abbrev pub object_class : Item
object_class = class_item (codes "c_java_lang_Object") (constructor_of [] (statements_of (sets (codes "k") (name_use (codes "k_java_lang_Object")) ∷ [])) ∷ [])

-- `const k_A = {s: "i_A", i_A: 1, i_java_lang_Object: 1};`
abbrev pub its_constants : Item
its_constants = object_item (codes "k_A") (own_mark (codes "i_A") ∷ mark (codes "i_A") ∷ mark (codes "i_java_lang_Object") ∷ [])

-- `class c_A extends c_java_lang_Object { constructor() { super(); this.k = k_A; this.f_A__f = 0; } }`
abbrev pub its_class : Item
its_class = subclass_item (codes "c_A") (codes "c_java_lang_Object") (constructor_of [] (statements_of (super_call ∷ sets (codes "k") (name_use (codes "k_A")) ∷ sets (codes "f_A__f") (number_literal (pos 0)) ∷ [])) ∷ [])

-- `function ct_A__$3cinit$3e$$V($this) { return $this; }`
abbrev pub init_function : Item
init_function = function_item (codes "ct_A__$3cinit$3e$$V") (codes "$this" ∷ []) (statements_of (return_of (name_use (codes "$this")) ∷ []))

-- `function p_A__get$$I($this) { return $this.f_A__f; }`
abbrev pub get_function : Item
get_function = function_item (codes "p_A__get$$I") (codes "$this" ∷ []) (statements_of (return_of (property_of (name_use (codes "$this")) (codes "f_A__f")) ∷ []))

-- `ct_A__$3cinit$3e$$V(new c_A())`
abbrev pub new_object : Expression
new_object = call_of (codes "ct_A__$3cinit$3e$$V") (expression (new_of (codes "c_A") no_expressions) no_expressions)

-- `function s_java_lang_Object__main$$V() { p_A__get$$I(ct_A__$3cinit$3e$$V(new c_A())); }`
abbrev pub main_function : Item
main_function = function_item (codes "s_java_lang_Object__main$$V") [] (statements_of (expression_statement (call_of (codes "p_A__get$$I") (expression new_object no_expressions)) ∷ []))

abbrev pub main_file : Name
main_file = file_of (codes "main")

abbrev pub class_file : Name
class_file = file_of (codes "class")

abbrev pub object_file : Name
object_file = file_of (codes "object")

-- what the class names: the one that it extends
abbrev pub names_of_object : List Name
names_of_object = codes "c_java_lang_Object" ∷ []

-- what `main` names: the class, its constructor, and its method
abbrev pub names_of_class : List Name
names_of_class = codes "c_A" ∷ codes "ct_A__$3cinit$3e$$V" ∷ codes "p_A__get$$I" ∷ []

abbrev pub object_module : Module
object_module = record { imports = []; items = object_constants ∷ object_class ∷ []; exports = names_of_object }

abbrev pub class_module : Module
class_module = record { imports = record { names = names_of_object; file = object_file } ∷ []; items = its_constants ∷ its_class ∷ init_function ∷ get_function ∷ []; exports = names_of_class }

abbrev pub main_module : Module
main_module = record { imports = record { names = names_of_class; file = class_file } ∷ []; items = main_function ∷ map call_item_of once; exports = [] }

abbrev pub three_files : Program
three_files = record { file = main_file; content = Some main_module } ∷ record { file = class_file; content = Some class_module } ∷ record { file = object_file; content = Some object_module } ∷ []

-- what the code of each file can use
abbrev pub main_use : Usable
main_use = record {
  linked = is_member main_member;
  lookup = own_targets;
  received = is_member (member class_name Private get_name);
  looked_up = λ c m. false;
  dispatched = λ m. false;
  reflected = λ m. false;
  built = is_member (member class_name Constructor init_name);
  made = is_same_text class_name;
  live = is_same_text class_name;
  field = λ c f t. false;
  static_field = λ c f t. false;
  static_setter = λ c f t. false;
  modules = λ c. false;
  stored = λ c. false;
  tests = λ t. false;
  casts = λ t. false;
  bases = λ c. false;
  arrays = false;
  on_arrays = λ m. false;
  helper = λ x. false;
  objects = true;
}

abbrev pub class_use : Usable
class_use = record {
  linked = λ m. false;
  lookup = own_targets;
  received = λ m. false;
  looked_up = λ c m. false;
  dispatched = λ m. false;
  reflected = λ m. false;
  built = λ m. false;
  made = is_same_text object_name;
  live = is_same_text object_name;
  field = λ c f t. is_same_text c class_name && (is_same_text f field_name && is_same_type t Int);
  static_field = λ c f t. false;
  static_setter = λ c f t. false;
  modules = λ c. false;
  stored = λ c. false;
  tests = λ t. false;
  casts = λ t. false;
  bases = λ c. false;
  arrays = false;
  on_arrays = λ m. false;
  helper = λ x. false;
  objects = true;
}

abbrev pub use_of : Name → Usable
use_of f = if is_same_text f main_file then main_use else (if is_same_text f class_file then class_use else members_alone (λ m. false))

-- `main` is in its own file, `java.lang.Object` with its constants too, and all else in that of the class
abbrev pub file_of_class : Name → Name
file_of_class c = if is_same_text c object_name then object_file else class_file

abbrev pub home_of : Top → Name
home_of (a_function m) = main_file
home_of (a_class c) = file_of_class c
home_of (some_constants c) = file_of_class c
home_of t = class_file

abbrev pub spread : Spread
spread = record { classes = object_world; program = three_files; home = home_of; has = use_of; front = object_file ∷ class_file ∷ []; last = main_file; declared = main_function ∷ [] }
