-- The rules on the fields and methods of a class.
use Rattle.std.specs.Prelude.{Bool, true, false, List, [], ◌∷◌, ◌&&◌, ◌||◌, not, map, Option, Some, None, is_some, if◌then◌else◌}
use Rattle.std.specs.List.{list_any}
use Rattle.std.specs.Cmp.Lexicographic.{pointwise}
use Rattle.sj_names.specs.declared.references.TypeRef.{TypeRef}
use Rattle.sj_names.specs.declared.references.TypeRef.TheVariants.{Void}
use Rattle.sj_names.specs.declared.method_names.MethodName.{MethodName}
use Rattle.sj_names.specs.declared.method_names.Namespace.{Namespace}
use Rattle.sj_names.specs.declared.method_names.Namespace.TheVariants.{Public}
use Rattle.sj_trees.specs.declared.types.IrType.{IrType}
use Rattle.sj_trees.specs.declared.classes.ClassKind.{ClassKind}
use Rattle.sj_trees.specs.declared.classes.ClassKind.TheVariants.{Class, Interface}
use Rattle.sj_trees.specs.declared.classes.ClassDef.{ClassDef}
use Rattle.sj_trees.specs.declared.classes.FieldDef.{FieldDef}
use Rattle.sj_trees.specs.declared.classes.MethodDef.{MethodDef}
use Rattle.sj_trees.specs.declared.classes.ParamDef.{ParamDef}
use Rattle.sj_trees.specs.Types.{reference_type}
use Rattle.sj_local.specs.declared.rules.Rule.{Rule}
use Rattle.sj_local.specs.declared.rules.Rule.TheVariants as rules
use Rattle.sj_local.specs.declared.members.FieldKey.{FieldKey}
use Rattle.sj_local.specs.declared.members.MethodKey.{MethodKey}
use Rattle.sj_local.specs.Names.{is_init, is_object, is_number, is_same_type, is_empty_type}
use Rattle.sj_local.specs.ClassRules.{is_empty, is_interface, is_hijacked_kind}
use Rattle.sj_local.specs.TreeRules.{is_constructor, is_module}

-- what no two fields share: the static mark and the name
abbrev pub field_key : FieldDef → FieldKey
field_key f = record { is_static = f.is_static; name = f.name }

-- what no two methods share: the namespace and the name
abbrev pub method_key : MethodDef → MethodKey
method_key m = record { namespace = m.namespace; name = m.name }

-- the classes whose instances have no fields of their own
abbrev pub has_no_fields : ClassDef → Bool
has_no_fields c = is_interface c.kind || is_hijacked_kind c.kind || is_object c.name || is_number c.name

-- A field has a type of which there are values, and is static where the instances of the class have no fields.
abbrev pub breaks_field : ClassDef → FieldDef → Bool
breaks_field c f = is_empty_type f.tpe || (not f.is_static && has_no_fields c)

abbrev pub is_void : Option TypeRef → Bool
is_void (Some Void) = true
is_void _ = false

-- `<init>` is the name of a constructor, and has no result. No method is a reflective proxy.
abbrev pub breaks_name : MethodDef → Bool
breaks_name m = (is_init m.name.simple && not (is_constructor m.namespace && is_void m.name.result)) || not (is_some m.name.result)

abbrev pub has_result : IrType → Option TypeRef → Bool
has_result t None = true
has_result t (Some r) = is_same_type t (reference_type r)

-- The types of parameters and result are those of the references in the name.
abbrev pub breaks_signature : MethodDef → Bool
breaks_signature m = not (pointwise is_same_type (map (λ (p : ParamDef). p.tpe) m.params) (map reference_type m.name.params) && has_result m.result m.name.result)

abbrev pub may_be_abstract : ClassKind → Namespace → Bool
may_be_abstract Class Public = true
may_be_abstract Interface Public = true
may_be_abstract _ _ = false

-- Only a public method of a class or an interface is without a body.
abbrev pub breaks_body : ClassDef → MethodDef → Bool
breaks_body c m = not (is_some m.body) && not (may_be_abstract c.kind m.namespace)

abbrev pub is_a_constructor : MethodDef → Bool
is_a_constructor m = is_constructor m.namespace

-- the constructor of a module class: `<init>` without parameters
abbrev pub is_plain_init : MethodName → Bool
is_plain_init name = is_init name.simple && is_empty name.params && is_void name.result

-- a constructor where there may be none, or one of a module class that isn't `<init>` without parameters
abbrev pub is_wrong_constructor : ClassDef → MethodDef → Bool
is_wrong_constructor c m = is_a_constructor m && (not (is_module c.kind) || not (is_plain_init m.name))

-- exactly one passes the test
abbrev pub exactly_one : {A : Type 0} → (A → Bool) → List A → Bool
exactly_one test [] = false
exactly_one test (x ∷ xs) = if test x then not (list_any test xs) else exactly_one test xs

-- the tests of the rules on one method
abbrev pub breaks_method : ClassDef → Rule → MethodDef → Bool
breaks_method c rules.MethodName m = breaks_name m
breaks_method c rules.Signature m = breaks_signature m
breaks_method c rules.MissingBody m = breaks_body c m
breaks_method c rules.Constructors m = is_wrong_constructor c m
breaks_method c other m = false
