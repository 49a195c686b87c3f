-- When one type is a subtype of another.
use Rattle.std.specs.Prelude.{◌≡◌, ◌<◌, Option, Some, None, codes}
use Rattle.sj_names.specs.declared.references.ArrayRef.{ArrayRef}
use Rattle.sj_names.specs.declared.references.BaseRef.{BaseRef}
use Rattle.sj_trees.specs.declared.types.IrType.{IrType}
use Rattle.sj_trees.specs.declared.types.IrType.TheVariants.{Any, Nothing, Undefined, Boolean, Char, Byte, Short, Int, Long, String, Null, Class, Array, NoType}
use Rattle.sj_world.specs.Known.{Name, Classes, object}
use Rattle.sj_world.specs.Ancestors.{IsAncestor}

-- the class of the values of a primitive type; null and nothing have none
abbrev pub hijacked_class : IrType → Option Name
hijacked_class Undefined = Some (codes "java.lang.Void")
hijacked_class Boolean = Some (codes "java.lang.Boolean")
hijacked_class Char = Some (codes "java.lang.Character")
hijacked_class Byte = Some (codes "java.lang.Byte")
hijacked_class Short = Some (codes "java.lang.Short")
hijacked_class Int = Some (codes "java.lang.Integer")
hijacked_class Long = Some (codes "java.lang.Long")
hijacked_class String = Some (codes "java.lang.String")
hijacked_class _ = None

-- the items of one array may stand where those of the other are asked for: the bases are equal, or one class has the other
-- as an ancestor
pub data IsSubBase (w : Classes) (s t : BaseRef) : Type 0 where
  equal_bases : s ≡ t → IsSubBase w s t
  classes : (c d : Name) → s ≡ BaseRef.Class c → t ≡ BaseRef.Class d → IsAncestor w c d → IsSubBase w s t

-- S is a subtype of T
pub data IsSub (w : Classes) (s t : IrType) : Type 0 where
  equal : s ≡ t → IsSub w s t
  from_nothing : s ≡ Nothing → IsSub w s t
  to_any : t ≡ Any → (s ≡ NoType → ⊥) → IsSub w s t
  null_to_class : (d : Name) → s ≡ Null → t ≡ Class d → IsSub w s t
  null_to_array : (b : ArrayRef) → s ≡ Null → t ≡ Array b → IsSub w s t
  class_to_class : (c d : Name) → s ≡ Class c → t ≡ Class d → IsAncestor w c d → IsSub w s t
  primitive_to_class : (c d : Name) → hijacked_class s ≡ Some c → t ≡ Class d → IsAncestor w c d → IsSub w s t
  arrays_alike : (a b : ArrayRef) → s ≡ Array a → t ≡ Array b → a.dimensions ≡ b.dimensions → IsSubBase w a.base b.base → IsSub w s t
  arrays_of_arrays : (a b : ArrayRef) → s ≡ Array a → t ≡ Array b → b.dimensions < a.dimensions → b.base ≡ BaseRef.Class object → IsSub w s t
