-- The class in which a call on a receiver is looked up.
use Rattle.std.specs.Prelude.{ℕ, List, Option, Some, None, codes}
use Rattle.sj_names.specs.WellKnown.{object}
use Rattle.sj_trees.specs.declared.types.IrType.{IrType}

-- of a class type that class, of any and of an array type the top class, of a primitive type its hijacked class; null, nothing and no
-- type have none
abbrev pub receiver_class : IrType → Option (List ℕ)
receiver_class IrType.Any = Some object
receiver_class (IrType.Array r) = Some object
receiver_class (IrType.Class c) = Some c
receiver_class IrType.Undefined = Some (codes "java.lang.Void")
receiver_class IrType.Boolean = Some (codes "java.lang.Boolean")
receiver_class IrType.Char = Some (codes "java.lang.Character")
receiver_class IrType.Byte = Some (codes "java.lang.Byte")
receiver_class IrType.Short = Some (codes "java.lang.Short")
receiver_class IrType.Int = Some (codes "java.lang.Integer")
receiver_class IrType.Long = Some (codes "java.lang.Long")
receiver_class IrType.String = Some (codes "java.lang.String")
receiver_class _ = None
