-- The test of a primitive type uses its helper, and so does the cast to one.
use Rattle.std.proofs.Common.{◌≡◌, true, [], ◌∷◌, refl}
use Rattle.object_folders.specs.Built.{has_kind}
use Rattle.sj_emit_expr_spec.specs.Tests.{test_name, cast_name}
use Rattle.sj_emit_expr_spec.specs.Uses.{object_binding, test_uses, cast_uses}
use Rattle.sj_names.proofs.Same.{impossible}
use Rattle.sj_trees.specs.declared.types.IrType.{IrType}
use Rattle.sj_trees.specs.declared.types.IrType.TheVariants.{Any, Class, Array}

pub kind_uses : (t : IrType) → has_kind t ≡ true → test_uses t ≡ object_binding (test_name t) ∷ []
kind_uses (Class c) h = impossible h
kind_uses (Array r) h = impossible h
kind_uses _ h = refl

pub cast_kind_uses : (t : IrType) → has_kind t ≡ true → cast_uses t ≡ object_binding (cast_name t) ∷ []
cast_kind_uses Any h = impossible h
cast_kind_uses (Class c) h = impossible h
cast_kind_uses (Array r) h = impossible h
cast_kind_uses _ h = refl
