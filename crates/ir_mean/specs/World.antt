-- The classes of a program, and what is found in them.
use Rattle.std.specs.Prelude.{ℕ, pos, Bool, true, false, not, List, [], ◌∷◌, ◌&&◌, ◌||◌, slice_get, codes, Option, Some, None, if◌then◌else◌}
use Rattle.std.specs.Char.Escape.{encode_utf16}
use Rattle.std.specs.List.{flat_map, list_any}
use Rattle.std.specs.Str.{chars}
use Rattle.sj_names.specs.References.{spelled_array}
use Rattle.sj_names.specs.declared.references.ArrayRef.{ArrayRef}
use Rattle.sj_names.specs.declared.method_names.MethodName.{MethodName}
use Rattle.sj_names.specs.declared.method_names.Namespace.{Namespace}
use Rattle.sj_trees.specs.declared.classes.ClassDef.{ClassDef}
use Rattle.sj_trees.specs.declared.classes.FieldDef.{FieldDef}
use Rattle.sj_trees.specs.declared.classes.MethodDef.{MethodDef}
use Rattle.sj_trees.specs.declared.types.IrType.{IrType}
use Rattle.ir_mean.specs.Dispatch.{chain_of, is_ancestor_of_any, is_array_below, is_small}
use Rattle.sj_names.specs.Same.{is_same_text, is_same_method, is_same_namespace}
use Rattle.ir_mean.specs.States.{Value, undefined, null, boolean, char, number, long, text, reference, Fields, Stored, object, array, State}

-- the classes of a program; no two of a program that is accepted have one name
abbrev pub World : Type 0
World = List ClassDef

abbrev pub class_of : World → List ℕ → Option ClassDef
class_of [] name = None
class_of (c ∷ cs) name = if is_same_text name c.name then Some c else class_of cs name

abbrev pub method_among : List MethodDef → Namespace → MethodName → Option MethodDef
method_among [] n m = None
method_among (d ∷ ds) n m = if (is_same_namespace n d.namespace && is_same_method m d.name) then Some d else method_among ds n m

abbrev pub method_in : Option ClassDef → Namespace → MethodName → Option MethodDef
method_in None n m = None
method_in (Some c) n m = method_among c.methods n m

-- a private, static or constructor member: it is found in the class named and nowhere else
abbrev pub member_of : World → List ℕ → Namespace → MethodName → Option MethodDef
member_of w c n m = method_in (class_of w c) n m

-- what a field of the type holds at first
abbrev pub zero_of : IrType → Value
zero_of IrType.Boolean = boolean false
zero_of IrType.Char = char 0
zero_of IrType.Byte = number (pos 0)
zero_of IrType.Short = number (pos 0)
zero_of IrType.Int = number (pos 0)
zero_of IrType.Long = long (pos 0)
zero_of IrType.String = text []
zero_of IrType.Undefined = undefined
zero_of _ = null

abbrev pub static_zero : List FieldDef → List ℕ → Option Value
static_zero [] name = None
static_zero (f ∷ fs) name = if (f.is_static && is_same_text name f.name) then Some (zero_of f.tpe) else static_zero fs name

abbrev pub statics_in : Option ClassDef → List ℕ → Option Value
statics_in None name = None
statics_in (Some c) name = static_zero c.fields name

-- the state that a program begins with: an empty heap, every static field at its type's zero, every cell null
abbrev pub opening : World → State
opening w = record { heap = []; statics = λ c f. statics_in (class_of w c) f; cells = λ c. null }

abbrev pub instance_zero : List FieldDef → List ℕ → Option Value
instance_zero [] name = None
instance_zero (f ∷ fs) name = if (not f.is_static && is_same_text name f.name) then Some (zero_of f.tpe) else instance_zero fs name

abbrev pub zeros_in : Option ClassDef → List ℕ → Option Value
zeros_in None name = None
zeros_in (Some c) name = instance_zero c.fields name

-- what the fields of a new object hold: those of its class and of the superclasses, each at its type's zero
abbrev pub new_fields : World → List ℕ → Fields
new_fields w c d f = if list_any (is_same_text d) (chain_of w c) then zeros_in (class_of w d) f else None

-- the class of a value by which calls and tests go; null has none
abbrev pub stored_class : Option Stored → Option (List ℕ)
stored_class None = None
stored_class (Some (object c fields)) = Some c
stored_class (Some (array r items)) = Some (codes "java.lang.Object")

abbrev pub class_of_value : State → Value → Option (List ℕ)
class_of_value s undefined = Some (codes "java.lang.Void")
class_of_value s null = None
class_of_value s (boolean b) = Some (codes "java.lang.Boolean")
class_of_value s (char u) = Some (codes "java.lang.Character")
class_of_value s (number z) = Some (codes "java.lang.Integer")
class_of_value s (long z) = Some (codes "java.lang.Long")
class_of_value s (text us) = Some (codes "java.lang.String")
class_of_value s (reference a) = stored_class (slice_get s.heap a)

-- an instance of a class: of an ancestor of its class, and a number besides of the classes of small numbers by its range
abbrev pub is_small_number : Value → List ℕ → Bool
is_small_number (number z) d = is_small z d
is_small_number _ d = false

abbrev pub is_instance : World → State → Value → List ℕ → Bool
is_instance w s v d = is_ancestor_of_any w (class_of_value s v) d || is_small_number v d

abbrev pub is_array : World → Option Stored → ArrayRef → Bool
is_array w (Some (array r items)) q = is_array_below w r q
is_array w _ q = false

abbrev pub is_array_value : World → State → Value → ArrayRef → Bool
is_array_value w s (reference a) q = is_array w (slice_get s.heap a) q
is_array_value w s _ q = false

-- whether a value other than null is of a type. By a number alone nothing tells byte, short and int apart but its range.
abbrev pub is_of_type : World → State → Value → IrType → Bool
is_of_type w s v IrType.Any = true
is_of_type w s undefined IrType.Undefined = true
is_of_type w s (boolean b) IrType.Boolean = true
is_of_type w s (char u) IrType.Char = true
is_of_type w s (number z) IrType.Byte = is_small z (codes "java.lang.Byte")
is_of_type w s (number z) IrType.Short = is_small z (codes "java.lang.Short")
is_of_type w s (number z) IrType.Int = true
is_of_type w s (long z) IrType.Long = true
is_of_type w s (text us) IrType.String = true
is_of_type w s v (IrType.Class c) = is_instance w s v c
is_of_type w s v (IrType.Array r) = is_array_value w s v r
is_of_type w s v t = false

-- what null is cast to: itself, and the zero of a primitive type
abbrev pub cast_of_null : IrType → Value
cast_of_null t = zero_of t

-- the units of a text in UTF-8
abbrev pub units_of : List ℕ → List ℕ
units_of name = flat_map encode_utf16 (chars name)

-- how a type is named by a cast that fails: a class by its name, an array by its reference, a primitive type by its word
abbrev pub type_text : IrType → List ℕ
type_text IrType.Undefined = codes "undef"
type_text IrType.Boolean = codes "boolean"
type_text IrType.Char = codes "char"
type_text IrType.Byte = codes "byte"
type_text IrType.Short = codes "short"
type_text IrType.Int = codes "int"
type_text IrType.Long = codes "long"
type_text IrType.String = codes "string"
type_text (IrType.Class c) = units_of c
type_text (IrType.Array r) = units_of (spelled_array r)
type_text _ = []
