-- Tests of equality on names and references.
pub use Rattle.sj_names.specs.WellKnown.{is_same_text}
use Rattle.std.specs.Prelude.{Bool, true, false, ◌&&◌, ◌==◌, Option, Some, None}
use Rattle.std.specs.Cmp.Lexicographic.{pointwise}
use Rattle.sj_names.specs.declared.references.ArrayRef.{ArrayRef}
use Rattle.sj_names.specs.declared.references.BaseRef.{BaseRef}
use Rattle.sj_names.specs.declared.references.TypeRef.{TypeRef}
use Rattle.sj_names.specs.declared.method_names.MethodName.{MethodName}
use Rattle.sj_names.specs.declared.method_names.Namespace.{Namespace}

abbrev pub is_same_base : BaseRef → BaseRef → Bool
is_same_base BaseRef.Boolean BaseRef.Boolean = true
is_same_base BaseRef.Char BaseRef.Char = true
is_same_base BaseRef.Byte BaseRef.Byte = true
is_same_base BaseRef.Short BaseRef.Short = true
is_same_base BaseRef.Int BaseRef.Int = true
is_same_base BaseRef.Long BaseRef.Long = true
is_same_base (BaseRef.Class c) (BaseRef.Class d) = is_same_text c d
is_same_base _ _ = false

abbrev pub is_same_array : ArrayRef → ArrayRef → Bool
is_same_array r q = r.dimensions == q.dimensions && is_same_base r.base q.base

abbrev pub is_same_reference : TypeRef → TypeRef → Bool
is_same_reference TypeRef.Void TypeRef.Void = true
is_same_reference TypeRef.Boolean TypeRef.Boolean = true
is_same_reference TypeRef.Char TypeRef.Char = true
is_same_reference TypeRef.Byte TypeRef.Byte = true
is_same_reference TypeRef.Short TypeRef.Short = true
is_same_reference TypeRef.Int TypeRef.Int = true
is_same_reference TypeRef.Long TypeRef.Long = true
is_same_reference (TypeRef.Class c) (TypeRef.Class d) = is_same_text c d
is_same_reference (TypeRef.Array r) (TypeRef.Array q) = is_same_array r q
is_same_reference _ _ = false

abbrev pub is_same_result : Option TypeRef → Option TypeRef → Bool
is_same_result None None = true
is_same_result (Some r) (Some q) = is_same_reference r q
is_same_result _ _ = false

abbrev pub is_same_method : MethodName → MethodName → Bool
is_same_method m k = is_same_text m.simple k.simple && pointwise is_same_reference m.params k.params && is_same_result m.result k.result

abbrev pub is_same_namespace : Namespace → Namespace → Bool
is_same_namespace Namespace.Public Namespace.Public = true
is_same_namespace Namespace.PublicStatic Namespace.PublicStatic = true
is_same_namespace Namespace.Private Namespace.Private = true
is_same_namespace Namespace.PrivateStatic Namespace.PrivateStatic = true
is_same_namespace Namespace.Constructor Namespace.Constructor = true
is_same_namespace _ _ = false
