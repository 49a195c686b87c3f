-- The test of types decides whether they are equal.
use Rattle.std.proofs.Common.{◌≡◌, Bool, true, false, refl, ap, sym, subst}
use Rattle.std.specs.Prelude.{IsTrue, ◌↔◌}
use Rattle.sj_names.proofs.Same.{impossible, text-same, text-refl, array-same, array-refl}
use Rattle.sj_trees.specs.declared.types.IrType.{IrType}
use Rattle.sj_trees.specs.SameTypes.{is_same_type}

pub type-same : (a b : IrType) → is_same_type a b ≡ true → a ≡ b
type-same IrType.Any IrType.Any h = refl
type-same IrType.Nothing IrType.Nothing h = refl
type-same IrType.Undefined IrType.Undefined h = refl
type-same IrType.Boolean IrType.Boolean h = refl
type-same IrType.Char IrType.Char h = refl
type-same IrType.Byte IrType.Byte h = refl
type-same IrType.Short IrType.Short h = refl
type-same IrType.Int IrType.Int h = refl
type-same IrType.Long IrType.Long h = refl
type-same IrType.String IrType.String h = refl
type-same IrType.Null IrType.Null h = refl
type-same (IrType.Class c) (IrType.Class d) h = ap IrType.Class (text-same c d h)
type-same (IrType.Array r) (IrType.Array s) h = ap IrType.Array (array-same r s h)
type-same IrType.NoType IrType.NoType h = refl
type-same _ _ h = impossible h

pub type-refl : (a : IrType) → is_same_type a a ≡ true
type-refl IrType.Any = refl
type-refl IrType.Nothing = refl
type-refl IrType.Undefined = refl
type-refl IrType.Boolean = refl
type-refl IrType.Char = refl
type-refl IrType.Byte = refl
type-refl IrType.Short = refl
type-refl IrType.Int = refl
type-refl IrType.Long = refl
type-refl IrType.String = refl
type-refl IrType.Null = refl
type-refl (IrType.Class c) = text-refl c
type-refl (IrType.Array r) = array-refl r
type-refl IrType.NoType = refl

-- a test of equality is this comparison
pub type_test : (a b : IrType) (r : Bool) → (IsTrue r ↔ (a ≡ b)) → r ≡ is_same_type a b
type_test a b true h = sym (subst (λ t. is_same_type a t ≡ true) (h.0 refl) (type-refl a))
type_test a b false h = go (is_same_type a b) refl
  where
    go : (s : Bool) → is_same_type a b ≡ s → false ≡ is_same_type a b
    go false e = sym e
    go true e = impossible (h.1 (type-same a b e))
