-- Types without values, told in two ways.
use Rattle.std.proofs.Common.{◌≡◌, refl}
use Rattle.sj_local.specs.Names.{is_empty_type}
use Rattle.agree_early_errors.specs.Desugar.{has_no_value}
use Rattle.sj_trees.specs.declared.types.IrType.{IrType}

pub empty-is : (t : IrType) → has_no_value t ≡ is_empty_type t
empty-is IrType.Nothing = refl
empty-is IrType.NoType = refl
empty-is _ = refl
