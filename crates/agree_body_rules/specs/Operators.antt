-- The operators that are built, and the operands that they take.
pub use Rattle.agree_body_forms.specs.Rules.{unary_operand, left_operand, right_operand}
use Rattle.std.specs.Prelude.{◌≡◌, Bool, true, false, ℤ, pos, ◌≢◌, FitsSigned}
use Rattle.std.specs.Int.{w32, w64}
use Rattle.agree_body_rules.specs.Standing.{is_joined, Fits, MayStand}
use Rattle.agree_body_forms.specs.Built.{Usable, divides, compares}
use Rattle.sj_trees.specs.Term.{Term, int_literal, long_literal}
use Rattle.sj_trees.specs.declared.operators.BinaryOp.{BinaryOp}
use Rattle.sj_trees.specs.declared.operators.BinaryOp.TheVariants.{StrictEqual, StrictNotEqual, StringConcatenate, IntDivide, IntRemainder, LongDivide, LongRemainder}
use Rattle.sj_trees.specs.declared.positions.Position.{Position}
use Rattle.sj_trees.specs.declared.types.IrType.{IrType}
use Rattle.sj_trees.specs.declared.types.IrType.TheVariants.{Any}

-- the operators that are built and take two operands of types of their own, but for division
abbrev pub is_simple : BinaryOp → Bool
is_simple StrictEqual = false
is_simple StrictNotEqual = false
is_simple StringConcatenate = false
is_simple IntDivide = false
is_simple IntRemainder = false
is_simple LongDivide = false
is_simple LongRemainder = false
is_simple _ = true

pub data IsDivision : BinaryOp → Type 0 where
  a_quotient : IsDivision IntDivide
  a_remainder : IsDivision IntRemainder

pub data IsLongDivision : BinaryOp → Type 0 where
  a_long_quotient : IsLongDivision LongDivide
  a_long_remainder : IsLongDivision LongRemainder

pub data IsIdentity : BinaryOp → Type 0 where
  a_sameness : IsIdentity StrictEqual
  a_difference : IsIdentity StrictNotEqual

-- an operator that takes operands of these types: one of its own types, texts that are joined, a division whose helper can be used, or identity whose helper
-- can be used, between values of any type
pub data Operates (has : Usable) : BinaryOp → IrType → IrType → Type 0 where
  of_its_types : (o : BinaryOp) (s t : IrType) → is_simple o ≡ true → Fits (left_operand o) s → Fits (right_operand o) t → Operates has o s t
  joins : (s t : IrType) → is_joined s ≡ true → is_joined t ≡ true → Operates has StringConcatenate s t
  divided : (o : BinaryOp) (s t : IrType) → divides has o ≡ true → Fits (left_operand o) s → Fits (right_operand o) t → Operates has o s t
  compared : (o : BinaryOp) (s t : IrType) → IsIdentity o → compares has ≡ true → MayStand has Any s → MayStand has Any t → Operates has o s t

-- a division by a literal other than zero
pub data DividesBy : BinaryOp → Term → Type 0 where
  by_int : (o : BinaryOp) → IsDivision o → (p : Position) (z : ℤ) → FitsSigned w32 z → z ≢ pos 0 → DividesBy o (int_literal p z)
  by_long : (o : BinaryOp) → IsLongDivision o → (p : Position) (z : ℤ) → FitsSigned w64 z → z ≢ pos 0 → DividesBy o (long_literal p z)
