-- The kind of a primitive type, whose helpers test for it and cast to it.
use Rattle.std.proofs.Common.{◌≡◌, true, Some, refl}
use Rattle.agree_body_forms.specs.Built.{has_kind}
use Rattle.sj_emit_help_spec.specs.Helpers.{helper_name}
use Rattle.sj_emit_help_spec.specs.declared.kinds.Helper.TheVariants.{TestOf, CastTo}
use Rattle.sj_emit_help_spec.specs.declared.kinds.Kind.{Kind}
use Rattle.sj_emit_help_spec.specs.declared.kinds.Kind.TheVariants as kinds
use Rattle.file_declarations.specs.Helpers.{kind_of}
use Rattle.sj_emit_expr_spec.specs.Tests.{test_name, cast_name}
use Rattle.sj_names.proofs.Same.{impossible}
use Rattle.sj_trees.specs.declared.types.IrType.{IrType}
use Rattle.sj_trees.specs.declared.types.IrType.TheVariants.{Undefined, Boolean, Char, Byte, Short, Int, Long, String}

pub record HasHelpers (t : IrType) : Type 0 where
  pub kind : Kind
  pub its_kind : kind_of t ≡ Some kind
  pub test : test_name t ≡ helper_name (TestOf kind)
  pub cast : cast_name t ≡ helper_name (CastTo kind)

pub helpers_of : (t : IrType) → has_kind t ≡ true → HasHelpers t
helpers_of Undefined h = record { kind = kinds.Undefined; its_kind = refl; test = refl; cast = refl }
helpers_of Boolean h = record { kind = kinds.Boolean; its_kind = refl; test = refl; cast = refl }
helpers_of Char h = record { kind = kinds.Char; its_kind = refl; test = refl; cast = refl }
helpers_of Byte h = record { kind = kinds.Byte; its_kind = refl; test = refl; cast = refl }
helpers_of Short h = record { kind = kinds.Short; its_kind = refl; test = refl; cast = refl }
helpers_of Int h = record { kind = kinds.Int; its_kind = refl; test = refl; cast = refl }
helpers_of Long h = record { kind = kinds.Long; its_kind = refl; test = refl; cast = refl }
helpers_of String h = record { kind = kinds.Text; its_kind = refl; test = refl; cast = refl }
helpers_of _ h = impossible h
