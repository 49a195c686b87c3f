-- Canonical bytes of references, names of methods and types: a code, the name of a class, and an array, each empty where there is
-- none.
use Rattle.std.specs.Prelude.{ℕ, List, [], ◌∷◌, ◌++◌, Option, Some, None}
use Rattle.sj_names.specs.declared.references.BaseRef.{BaseRef}
use Rattle.sj_names.specs.declared.references.ArrayRef.{ArrayRef}
use Rattle.sj_names.specs.declared.references.TypeRef.{TypeRef}
use Rattle.sj_names.specs.declared.method_names.MethodName.{MethodName}
use Rattle.sj_names.specs.declared.method_names.Namespace.{Namespace}
use Rattle.sj_trees.specs.declared.types.IrType.{IrType}
use Rattle.sj_canon.specs.Numbers.{text_bytes, list_bytes, option_bytes}

abbrev pub base_code : BaseRef → ℕ
base_code BaseRef.Boolean = 2
base_code BaseRef.Char = 3
base_code BaseRef.Byte = 4
base_code BaseRef.Short = 5
base_code BaseRef.Int = 6
base_code BaseRef.Long = 7
base_code (BaseRef.Class name) = 8

abbrev pub base_class : BaseRef → List ℕ
base_class (BaseRef.Class name) = name
base_class other = []

unfoldable pub base_bytes : BaseRef → List ℕ
base_bytes b = base_code b ∷ text_bytes (base_class b)

unfoldable pub array_bytes : ArrayRef → List ℕ
array_bytes a = a.dimensions ∷ base_bytes a.base

-- what a reference or a type is made of
pub record Made : Type 0 where
  pub code : ℕ
  pub class : List ℕ
  pub array : Option ArrayRef

abbrev pub plain : ℕ → Made
plain code = record { code = code; class = []; array = None }

unfoldable pub made_bytes : Made → List ℕ
made_bytes m = m.code ∷ text_bytes m.class ++ option_bytes array_bytes m.array

abbrev pub reference_made : TypeRef → Made
reference_made TypeRef.Void = plain 1
reference_made TypeRef.Boolean = plain 2
reference_made TypeRef.Char = plain 3
reference_made TypeRef.Byte = plain 4
reference_made TypeRef.Short = plain 5
reference_made TypeRef.Int = plain 6
reference_made TypeRef.Long = plain 7
reference_made (TypeRef.Class name) = record (plain 8) { class = name }
reference_made (TypeRef.Array array) = record (plain 9) { array = Some array }

abbrev pub reference_bytes : TypeRef → List ℕ
reference_bytes r = made_bytes (reference_made r)

abbrev pub type_made : IrType → Made
type_made IrType.Any = plain 1
type_made IrType.Nothing = plain 2
type_made IrType.Undefined = plain 3
type_made IrType.Boolean = plain 4
type_made IrType.Char = plain 5
type_made IrType.Byte = plain 6
type_made IrType.Short = plain 7
type_made IrType.Int = plain 8
type_made IrType.Long = plain 9
type_made IrType.String = plain 10
type_made IrType.Null = plain 11
type_made (IrType.Class name) = record (plain 12) { class = name }
type_made (IrType.Array array) = record (plain 13) { array = Some array }
type_made IrType.NoType = plain 14

abbrev pub type_bytes : IrType → List ℕ
type_bytes t = made_bytes (type_made t)

unfoldable pub method_name_bytes : MethodName → List ℕ
method_name_bytes m = text_bytes m.simple ++ list_bytes reference_bytes m.params ++ option_bytes reference_bytes m.result

abbrev pub namespace_byte : Namespace → ℕ
namespace_byte Namespace.Public = 1
namespace_byte Namespace.PublicStatic = 2
namespace_byte Namespace.Private = 3
namespace_byte Namespace.PrivateStatic = 4
namespace_byte Namespace.Constructor = 5
