-- The types that references stand for.
use Rattle.std.specs.Prelude.{ℕ, ◌-◌, List, ◌==◌, nat_eq, codes, if◌then◌else◌}
use Rattle.std.specs.Cmp.Lexicographic.{pointwise}
use Rattle.sj_names.specs.declared.references.ArrayRef.{ArrayRef}
use Rattle.sj_names.specs.declared.references.BaseRef.{BaseRef}
use Rattle.sj_names.specs.declared.references.TypeRef.{TypeRef}
use Rattle.sj_trees.specs.declared.types.IrType.{IrType}

-- the type of a class: `java.lang.Object` has no type of its own beside any
abbrev pub class_type : List ℕ → IrType
class_type name = if pointwise nat_eq name (codes "java.lang.Object") then IrType.Any else IrType.Class name

-- the type of a reference that is no array's
abbrev pub base_type : BaseRef → IrType
base_type BaseRef.Boolean = IrType.Boolean
base_type BaseRef.Char = IrType.Char
base_type BaseRef.Byte = IrType.Byte
base_type BaseRef.Short = IrType.Short
base_type BaseRef.Int = IrType.Int
base_type BaseRef.Long = IrType.Long
base_type (BaseRef.Class c) = class_type c

-- the type of a reference with this many dimensions
abbrev pub nested_type : ℕ → BaseRef → IrType
nested_type n base = if n == 0 then base_type base else IrType.Array (record { dimensions = n; base = base })

-- the type of an array's items: that of its reference with one dimension less
abbrev pub element_type : ArrayRef → IrType
element_type r = nested_type (r.dimensions - 1) r.base

-- the type of a reference
abbrev pub reference_type : TypeRef → IrType
reference_type TypeRef.Void = IrType.NoType
reference_type TypeRef.Boolean = IrType.Boolean
reference_type TypeRef.Char = IrType.Char
reference_type TypeRef.Byte = IrType.Byte
reference_type TypeRef.Short = IrType.Short
reference_type TypeRef.Int = IrType.Int
reference_type TypeRef.Long = IrType.Long
reference_type (TypeRef.Class c) = class_type c
reference_type (TypeRef.Array r) = IrType.Array r
