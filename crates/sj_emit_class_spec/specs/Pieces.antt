-- The pieces of a class, but for the functions of its methods.
use Rattle.std.specs.Prelude.{Bool, ◌||◌, List, [], ◌∷◌, true, false, ◌++◌, Option, Some, None, map, codes, if◌then◌else◌, is_none}
use Rattle.std.specs.List.{flat_map}
use Rattle.js_tree.specs.Terms.{Name, Expression, no_expressions, expression, null_literal, text_literal, name_use, this_use, property_of, call_of, method_call_of, new_of, binary_of, conditional_of, Statement, Statements, no_statements, statement, const_of, assign_name, assign_property, super_call, return_of, if_only, Member, constructor_of, method_of, Item, object_item, let_item, function_item, class_item, subclass_item, Piece}
use Rattle.js_tree.specs.Views.{statements_of}
use Rattle.js_tree.specs.declared.operators.BinaryOperator.TheVariants.{In}
use Rattle.js_tree.specs.declared.items.Binding.{Binding}
use Rattle.sj_mangling.specs.Bindings.{class_binding, field_binding, function_name}
use Rattle.sj_mangling.specs.declared.bindings.ClassBinding.TheVariants.{IsInstance, AsInstance, Instance, LoadModule, StoreModule}
use Rattle.sj_mangling.specs.declared.bindings.FieldBinding.TheVariants.{Property as FieldProperty, Variable, Setter}
use Rattle.sj_names.specs.declared.method_names.MethodName.{MethodName}
use Rattle.sj_names.specs.declared.method_names.Namespace.TheVariants.{Constructor}
use Rattle.sj_names.specs.declared.references.TypeRef.{TypeRef}
use Rattle.sj_names.specs.declared.references.TypeRef.TheVariants as References
use Rattle.sj_trees.specs.declared.classes.ClassDef.{ClassDef}
use Rattle.sj_trees.specs.declared.classes.FieldDef.{FieldDef}
use Rattle.sj_trees.specs.declared.types.IrType.{IrType}
use Rattle.sj_baselink_spec.specs.MethodEntry.{MethodEntry}
use Rattle.sj_baselink_spec.specs.Known.{is_same}
use Rattle.sj_emit_expr_spec.specs.Templates.{member_name, zero_template}
use Rattle.sj_emit_expr_spec.specs.Uses.{once_each}
use Rattle.sj_emit_help_spec.specs.Helpers.{constants}
use Rattle.sj_emit_help_spec.specs.Words.{kind_class, is_name, all_kinds, units_of, constants_name, class_name, marker, entry_name, parameters_of, uses, x, call1, only_return, not_null, is_null, has_word, both, either, bound, helper}
use Rattle.sj_emit_help_spec.specs.declared.kinds.Kind.{Kind}

-- what the pieces of a class are made of: the class; the classes above it, itself among them, in order of bytes; its method entries, its own
-- fields of instances, and its static fields that are reached, each in order; which kinds of primitive values, told by a word, are instances
-- of it; and what there is of it
pub record Parts : Type 0 where
  pub class : ClassDef
  pub ancestors : List Name
  pub entries : List MethodEntry
  pub fields : List FieldDef
  pub statics : List FieldDef
  pub instances : List Kind
  pub is_live : Bool
  pub is_base : Bool
  pub is_loaded : Bool
  pub is_stored : Bool
  pub is_tested : Bool
  pub is_cast : Bool

abbrev pub constants_piece : Name → List Name → Piece
constants_piece c ancestors = record { owner = c; name = constants_name c; uses = []; item = object_item (constants_name c) (constants c ancestors) }

-- a direct entry hands its call on to a function, one of a reflective name to another entry, whose char it boxes
abbrev pub direct_call : MethodEntry → Expression
direct_call e = call_of (member_name e.target) (expression this_use (uses (parameters_of e.name)))

abbrev pub boxed : Expression → Expression
boxed e = new_of (codes "$C") (expression e no_expressions)

abbrev pub is_char : Option TypeRef → Bool
is_char (Some References.Char) = true
is_char _ = false

abbrev pub boxed_result : MethodName → Expression → Expression
boxed_result m e = if is_char m.result then boxed e else e

abbrev pub proxy_call : MethodEntry → Expression
proxy_call e = boxed_result e.target.method (method_call_of this_use (entry_name e.target.method) (uses (parameters_of e.name)))

abbrev pub is_proxy : MethodEntry → Bool
is_proxy e = is_none e.name.result

abbrev pub entry_call : MethodEntry → Expression
entry_call e = if is_proxy e then proxy_call e else direct_call e

abbrev pub entry_member : MethodEntry → Member
entry_member e = method_of (entry_name e.name) (parameters_of e.name) (only_return (entry_call e))

abbrev pub box_uses : MethodName → List Binding
box_uses m = if is_char m.result then helper (codes "$C") ∷ [] else []

abbrev pub entry_uses : MethodEntry → List Binding
entry_uses e = if is_proxy e then box_uses e.target.method else bound e.target.class (member_name e.target) ∷ []

abbrev pub uses_of_entries : List MethodEntry → List Binding
uses_of_entries = flat_map entry_uses

-- the value that a field or a variable of a type begins with
abbrev pub zero_of : IrType → Expression
zero_of = zero_template

abbrev pub field_start : Name → FieldDef → Statement
field_start c f = assign_property this_use (field_binding FieldProperty c f.name) (zero_of f.tpe)

abbrev pub start_of_super : Option Name → List Statement
start_of_super None = []
start_of_super (Some s) = super_call ∷ []

abbrev pub set_constants : Name → Statement
set_constants c = assign_property this_use (codes "k") (name_use (constants_name c))

abbrev pub constructor_body : Name → Option Name → List FieldDef → List Statement
constructor_body c superclass fields = start_of_super superclass ++ set_constants c ∷ map (field_start c) fields

abbrev pub members : Name → Option Name → List MethodEntry → List FieldDef → List Member
members c superclass entries fields = constructor_of [] (statements_of (constructor_body c superclass fields)) ∷ map entry_member entries

abbrev pub class_item_of : Name → Option Name → List Member → Item
class_item_of c None ms = class_item (class_name c) ms
class_item_of c (Some s) ms = subclass_item (class_name c) (class_name s) ms

abbrev pub parent_uses : Option Name → List Binding
parent_uses None = []
parent_uses (Some s) = bound s (class_name s) ∷ []

abbrev pub own_constants : Name → Binding
own_constants c = bound c (constants_name c)

abbrev pub class_uses : Name → Option Name → List MethodEntry → List Binding
class_uses c superclass entries = parent_uses superclass ++ own_constants c ∷ uses_of_entries entries

-- with each binding once, where it comes first
abbrev pub class_piece : Name → Option Name → List MethodEntry → List FieldDef → Piece
class_piece c superclass entries fields = record { owner = c; name = class_name c; uses = once_each [] (class_uses c superclass entries); item = class_item_of c superclass (members c superclass entries fields) }

abbrev pub setter : Name → Name → Item
setter function variable = function_item function (codes "x" ∷ []) (statement (assign_name variable x) no_statements)

abbrev pub set_piece : Name → Name → Name → Piece
set_piece c function variable = record { owner = c; name = function; uses = bound c variable ∷ []; item = setter function variable }

abbrev pub variable_piece : Name → FieldDef → Piece
variable_piece c f = record { owner = c; name = field_binding Variable c f.name; uses = []; item = let_item (field_binding Variable c f.name) (zero_of f.tpe) }

abbrev pub setter_piece : Name → FieldDef → Piece
setter_piece c f = set_piece c (field_binding Setter c f.name) (field_binding Variable c f.name)

abbrev pub init : MethodName
init = record { simple = codes "<init>"; params = []; result = Some References.Void }

abbrev pub init_name : Name → Name
init_name c = function_name Constructor c init

-- `ct_C__<init>;V(new c_C())`
abbrev pub made_instance : Name → Expression
made_instance c = call1 (init_name c) (new_of (class_name c) no_expressions)

-- `const x = ..; n_C = x;`
abbrev pub new_instance : Name → Name → Statements
new_instance c cell = statements_of (const_of (codes "x") (made_instance c) ∷ assign_name cell x ∷ [])

-- `if ((n_C === null)) { .. }`
abbrev pub fill_cell : Name → Name → Statement
fill_cell c cell = if_only (is_null (name_use cell)) (new_instance c cell)

abbrev pub load_body : Name → List Statement
load_body c = fill_cell c (class_binding Instance c) ∷ return_of (name_use (class_binding Instance c)) ∷ []

abbrev pub load_uses : Name → List Binding
load_uses c = bound c (class_binding Instance c) ∷ bound c (init_name c) ∷ bound c (class_name c) ∷ []

abbrev pub when : {A : Type 0} → Bool → List A → List A
when b xs = if b then xs else []

abbrev pub cell_piece : Name → Piece
cell_piece c = record { owner = c; name = class_binding Instance c; uses = []; item = let_item (class_binding Instance c) null_literal }

abbrev pub load_piece : Name → Piece
load_piece c = record { owner = c; name = class_binding LoadModule c; uses = load_uses c; item = function_item (class_binding LoadModule c) [] (statements_of (load_body c)) }

abbrev pub store_piece : Name → Piece
store_piece c = set_piece c (class_binding StoreModule c) (class_binding Instance c)

abbrev pub cell_pieces : Name → Bool → List Piece
cell_pieces c loaded = cell_piece c ∷ when loaded (load_piece c ∷ []) ++ store_piece c ∷ []

abbrev pub is_marked : Name → Expression
is_marked c = binary_of (text_literal (marker c)) In (property_of x (codes "k"))

-- `$isX(x)` for each kind, joined from the left, and the marker of the class on an object
abbrev pub has_marker : Name → Expression
has_marker c = both (has_word (codes "object") x) (is_marked c)

abbrev pub kind_test : Kind → Expression
kind_test k = call1 (is_name k) x

abbrev pub joined : Expression → List Kind → Expression
joined e [] = e
joined e (k ∷ ks) = joined (either e (kind_test k)) ks

abbrev pub any_of : List Kind → Expression → Expression
any_of [] e = e
any_of (k ∷ ks) e = either (joined (kind_test k) ks) e

-- the kind of a hijacked class
abbrev pub kind_of_class : Name → List Kind → Option Kind
kind_of_class c [] = None
kind_of_class c (k ∷ ks) = if is_same c (kind_class k) then Some k else kind_of_class c ks

abbrev pub instance_test : Name → List Kind → Option Kind → Expression
instance_test c kinds (Some k) = kind_test k
instance_test c kinds None = both (not_null x) (any_of kinds (has_marker c))

abbrev pub test_binding : Kind → Binding
test_binding k = helper (is_name k)

abbrev pub test_uses : List Kind → Option Kind → List Binding
test_uses kinds (Some k) = helper (is_name k) ∷ []
test_uses kinds None = map test_binding kinds

abbrev pub tested : Name → Expression → List Binding → Piece
tested c test used = record { owner = c; name = class_binding IsInstance c; uses = used; item = function_item (class_binding IsInstance c) (codes "x" ∷ []) (only_return test) }

abbrev pub test_piece : Name → List Kind → Option Kind → Piece
test_piece c kinds kind = tested c (instance_test c kinds kind) (test_uses kinds kind)

abbrev pub is_instance : Name → Expression
is_instance c = call1 (class_binding IsInstance c) x

abbrev pub null_or_instance : Name → Expression
null_or_instance c = either (is_null x) (is_instance c)

-- `(((x === null) || is_C(x)) ? x : $cce("C"))`
abbrev pub cast_value : Name → Expression
cast_value c = conditional_of (null_or_instance c) x (call1 (codes "$cce") (text_literal (units_of c)))

abbrev pub cast_item : Name → Item
cast_item c = function_item (class_binding AsInstance c) (codes "x" ∷ []) (only_return (cast_value c))

abbrev pub cast_piece : Name → Piece
cast_piece c = record { owner = c; name = class_binding AsInstance c; uses = bound c (class_binding IsInstance c) ∷ helper (codes "$cce") ∷ []; item = cast_item c }

abbrev pub all_statics : Name → List FieldDef → List Piece
all_statics c [] = []
all_statics c (f ∷ fs) = variable_piece c f ∷ setter_piece c f ∷ all_statics c fs

abbrev pub constants_of : Parts → List Piece
constants_of p = when (p.is_live || p.is_base) (constants_piece p.class.name p.ancestors ∷ [])

abbrev pub class_of : Parts → List Piece
class_of p = when p.is_live (class_piece p.class.name p.class.superclass p.entries p.fields ∷ [])

abbrev pub module_of : Parts → List Piece
module_of p = when (p.is_loaded || p.is_stored) (cell_pieces p.class.name p.is_loaded)

abbrev pub tests_of : Parts → List Piece
tests_of p =
    when (p.is_tested || p.is_cast) (test_piece p.class.name p.instances (kind_of_class p.class.name all_kinds) ∷ [])
    ++ when p.is_cast (cast_piece p.class.name ∷ [])

-- the pieces of a class in order
abbrev pub pieces : Parts → List Piece
pieces p = constants_of p ++ class_of p ++ all_statics p.class.name p.statics ++ module_of p ++ tests_of p
