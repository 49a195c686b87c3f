-- A test of equality on types.
use Rattle.std.specs.Prelude.{Bool, true, false}
use Rattle.sj_names.specs.Same.{is_same_text, is_same_array}
use Rattle.sj_trees.specs.declared.types.IrType.{IrType}

abbrev pub is_same_type : IrType → IrType → Bool
is_same_type IrType.Any IrType.Any = true
is_same_type IrType.Nothing IrType.Nothing = true
is_same_type IrType.Undefined IrType.Undefined = true
is_same_type IrType.Boolean IrType.Boolean = true
is_same_type IrType.Char IrType.Char = true
is_same_type IrType.Byte IrType.Byte = true
is_same_type IrType.Short IrType.Short = true
is_same_type IrType.Int IrType.Int = true
is_same_type IrType.Long IrType.Long = true
is_same_type IrType.String IrType.String = true
is_same_type IrType.Null IrType.Null = true
is_same_type (IrType.Class c) (IrType.Class d) = is_same_text c d
is_same_type (IrType.Array a) (IrType.Array b) = is_same_array a b
is_same_type IrType.NoType IrType.NoType = true
is_same_type _ _ = false
