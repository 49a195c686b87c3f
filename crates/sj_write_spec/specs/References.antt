-- The fields of types, references and names of methods.
use Rattle.std.specs.Prelude.{ℕ, List, [], ◌∷◌, ◌++◌, Option, Some, None}
use Rattle.std.specs.List.{flat_map}
use Rattle.sj_names.specs.declared.references.BaseRef.{BaseRef}
use Rattle.sj_names.specs.declared.references.ArrayRef.{ArrayRef}
use Rattle.sj_names.specs.declared.references.TypeRef.{TypeRef}
use Rattle.sj_names.specs.declared.method_names.MethodName.{MethodName}
use Rattle.sj_trees.specs.declared.types.IrType.{IrType}
use Rattle.sj_write_spec.specs.Fields.{Fields, name_field, ◌▸◌, byte, list_fields}

-- the base of an array
abbrev pub base_fields : BaseRef → Fields
base_fields BaseRef.Boolean = byte 2
base_fields BaseRef.Char = byte 3
base_fields BaseRef.Byte = byte 4
base_fields BaseRef.Short = byte 5
base_fields BaseRef.Int = byte 6
base_fields BaseRef.Long = byte 7
base_fields (BaseRef.Class c) = byte 8 ▸ name_field c

-- an array: its code, its dimensions and its base
abbrev pub array_fields : ArrayRef → Fields
array_fields a = byte 9 ▸ byte a.dimensions ▸ base_fields a.base

-- a reference
abbrev pub reference_fields : TypeRef → Fields
reference_fields TypeRef.Void = byte 1
reference_fields TypeRef.Boolean = byte 2
reference_fields TypeRef.Char = byte 3
reference_fields TypeRef.Byte = byte 4
reference_fields TypeRef.Short = byte 5
reference_fields TypeRef.Int = byte 6
reference_fields TypeRef.Long = byte 7
reference_fields (TypeRef.Class c) = byte 8 ▸ name_field c
reference_fields (TypeRef.Array a) = array_fields a

-- the reference of a result, or 0 where a reflective proxy has none
abbrev pub result_fields : Option TypeRef → Fields
result_fields None = byte 0
result_fields (Some r) = reference_fields r

-- an entry of the table of method names
abbrev pub method_name_fields : MethodName → Fields
method_name_fields m = name_field m.simple ▸ list_fields reference_fields m.params ▸ result_fields m.result

-- the names in the base of an array, in a reference and in a result
abbrev pub names_in_base : BaseRef → List (List ℕ)
names_in_base (BaseRef.Class c) = c ∷ []
names_in_base other = []

abbrev pub names_in_reference : TypeRef → List (List ℕ)
names_in_reference (TypeRef.Class c) = c ∷ []
names_in_reference (TypeRef.Array a) = names_in_base a.base
names_in_reference other = []

abbrev pub names_in_result : Option TypeRef → List (List ℕ)
names_in_result None = []
names_in_result (Some r) = names_in_reference r

-- the names of a method name: its simple name, then those of the parameters, then that of the result
abbrev pub names_in_method : MethodName → List (List ℕ)
names_in_method m = m.simple ∷ flat_map names_in_reference m.params ++ names_in_result m.result

-- a type
abbrev pub type_fields : IrType → Fields
type_fields IrType.Any = byte 1
type_fields IrType.Nothing = byte 2
type_fields IrType.Undefined = byte 3
type_fields IrType.Boolean = byte 4
type_fields IrType.Char = byte 5
type_fields IrType.Byte = byte 6
type_fields IrType.Short = byte 7
type_fields IrType.Int = byte 8
type_fields IrType.Long = byte 9
type_fields IrType.String = byte 10
type_fields IrType.Null = byte 11
type_fields (IrType.Class c) = byte 12 ▸ name_field c
type_fields (IrType.Array a) = byte 13 ▸ array_fields a
type_fields IrType.NoType = byte 14
