-- The operators of the IR and their templates, on operands that are alike.
use Rattle.sj_names.proofs.Same.{impossible}
use Rattle.std.proofs.Common.{◌≡◌, ℕ, ◌<◌, ◌≤◌, ◌^◌, ◌/◌, Bool, true, false, Some, None, Option, refl, ap, ◌∙◌, subst, arith, if◌then◌else◌}
use Rattle.std.specs.Prelude.{ℤ, pos, ◌+ℤ◌, ◌-ℤ◌, ◌*ℤ◌, not, ◌&&◌, ◌||◌, int_lt, int_le, bit_and, bit_or, bit_xor, FitsSigned}
use Rattle.std.specs.Ordering.{int_eq}
use Rattle.std.specs.Int.{cast_unsigned, w32, w64}
use Rattle.std.proofs.Math.Nat.{div-le_self}
use Rattle.std.proofs.lemmas.Nat.{or_lt, xor_lt, and_le_l}
use Rattle.int_arithmetic.specs.Longs as longs
use Rattle.int_arithmetic.specs.Numbers.{is_exact}
use Rattle.int_arithmetic.specs.Signed as signed
use Rattle.int_arithmetic.proofs.Exact.{sum-exact, difference-exact}
use Rattle.int_arithmetic.proofs.Fits.{wrapped-fits, shifted_right-fits}
use Rattle.int_arithmetic.proofs.Longs as on_longs
use Rattle.int_arithmetic.proofs.Operators.{sum-is, difference-is, product-is, or-is, and-is, xor-is, left_shift-is, right_shift-is, zero_shift-is}
use Rattle.int_arithmetic.proofs.Words.{cast-fits, uint-below, uint-is}
use Rattle.ir_mean.specs.Operators as ir_operators
use Rattle.ir_mean.specs.States as ir
use Rattle.js_mean.specs.Operators as js_operators
use Rattle.js_mean.specs.States as js
use Rattle.js_tree.specs.declared.operators.BinaryOperator.TheVariants as Op
use Rattle.sj_trees.specs.TypeOf.{binary_result}
use Rattle.sj_trees.specs.declared.operators.BinaryOp.{BinaryOp}
use Rattle.sj_trees.specs.declared.operators.BinaryOp.TheVariants.{StrictEqual, StrictNotEqual, StringConcatenate, BooleanEqual, BooleanNotEqual, BooleanOr, BooleanAnd, IntAdd, IntSubtract, IntMultiply, IntDivide, IntRemainder, IntOr, IntAnd, IntXor, IntShiftLeft, IntShiftRightLogical, IntShiftRightArithmetic, IntEqual, IntNotEqual, IntLess, IntLessOrEqual, IntGreater, IntGreaterOrEqual, LongAdd, LongSubtract, LongMultiply, LongDivide, LongRemainder, LongOr, LongAnd, LongXor, LongShiftLeft, LongShiftRightLogical, LongShiftRightArithmetic, LongEqual, LongNotEqual, LongLess, LongLessOrEqual, LongGreater, LongGreaterOrEqual}
use Rattle.sj_trees.specs.declared.types.IrType.{IrType}
use Rattle.sj_trees.specs.declared.types.IrType.TheVariants.{Boolean, Int, Long}
use Rattle.agree_body_rules.specs.Operators.{is_simple}
use Rattle.agree_plain_trees.specs.Standing.{suits}
use Rattle.agree_plain_trees.proofs.Worlds.{World, Stands, same_boolean, same_number, same_long, SameValue}

pub same-boolean : (a b : Bool) → js_operators.is_same_boolean a b ≡ ir_operators.is_same_boolean a b
same-boolean true b = refl
same-boolean false b = refl

pub word-fits : (a : ℤ) → FitsSigned w32 a → cast_unsigned w32 a < 2 ^ 32
word-fits a f = subst (λ (n : ℕ). n < 2 ^ 32) (uint-is a f) (uint-below a)

and_below : (m n : ℕ) → m < 2 ^ 32 → bit_and m n < 2 ^ 32
and_below m n h = let k : bit_and m n ≤ m = and_le_l m n in omega arith

quotient_below : (m n : ℕ) → m < 2 ^ 32 → m / n < 2 ^ 32
quotient_below m n h = let k : m / n ≤ m = div-le_self m n in omega arith

pub or-fits : (a b : ℤ) → FitsSigned w32 a → FitsSigned w32 b → FitsSigned w32 (signed.bits_or a b)
or-fits a b f g = cast-fits (bit_or (cast_unsigned w32 a) (cast_unsigned w32 b)) (or_lt 32 (cast_unsigned w32 a) (cast_unsigned w32 b) (word-fits a f) (word-fits b g))

pub and-fits : (a b : ℤ) → FitsSigned w32 a → FitsSigned w32 b → FitsSigned w32 (signed.bits_and a b)
and-fits a b f g = cast-fits (bit_and (cast_unsigned w32 a) (cast_unsigned w32 b)) (and_below (cast_unsigned w32 a) (cast_unsigned w32 b) (word-fits a f))

pub xor-fits : (a b : ℤ) → FitsSigned w32 a → FitsSigned w32 b → FitsSigned w32 (signed.bits_xor a b)
xor-fits a b f g = cast-fits (bit_xor (cast_unsigned w32 a) (cast_unsigned w32 b)) (xor_lt 32 (cast_unsigned w32 a) (cast_unsigned w32 b) (word-fits a f) (word-fits b g))

pub zero_shift-fits : (a b : ℤ) → FitsSigned w32 a → FitsSigned w32 (signed.shifted_right_with_zeros a b)
zero_shift-fits a b f = cast-fits (cast_unsigned w32 a / 2 ^ signed.places b) (quotient_below (cast_unsigned w32 a) (2 ^ signed.places b) (word-fits a f))

-- what the template of an operator computes from the values of its operands

-- `((a + b) | 0)`, where the sum is exact
abbrev pub or_zero_value : Option js.Value → Option js.Value
or_zero_value None = None
or_zero_value (Some v) = js_operators.binary_value Op.BitOr v (js.number (pos 0))

sum_value : (a b : ℤ) → is_exact (a +ℤ b) ≡ true → or_zero_value (js_operators.exact (a +ℤ b)) ≡ Some (js.number (signed.sum a b))
sum_value a b e = ap (λ (t : Bool). or_zero_value (if t then Some (js.number (a +ℤ b)) else None)) e ∙ ap (λ (z : ℤ). Some (js.number z)) (sum-is a b)

difference_value : (a b : ℤ) → is_exact (a -ℤ b) ≡ true → or_zero_value (js_operators.exact (a -ℤ b)) ≡ Some (js.number (signed.difference a b))
difference_value a b e = ap (λ (t : Bool). or_zero_value (if t then Some (js.number (a -ℤ b)) else None)) e ∙ ap (λ (z : ℤ). Some (js.number z)) (difference-is a b)

-- `(!(!(a | b)))`
abbrev pub boolean_of : Option js.Value → Option js.Value
boolean_of None = None
boolean_of (Some v) = Some (js.boolean (not (not (js_operators.to_boolean v))))

pub or_boolean : (a b : Bool) → boolean_of (js_operators.binary_value Op.BitOr (js.boolean a) (js.boolean b)) ≡ Some (js.boolean (a || b))
or_boolean true true = refl
or_boolean true false = refl
or_boolean false true = refl
or_boolean false false = refl

pub and_boolean : (a b : Bool) → boolean_of (js_operators.binary_value Op.BitAnd (js.boolean a) (js.boolean b)) ≡ Some (js.boolean (a && b))
and_boolean true true = refl
and_boolean true false = refl
and_boolean false true = refl
and_boolean false false = refl

-- `BigInt.asIntN(64, e)`
abbrev pub wrapped_value : Option js.Value → Option js.Value
wrapped_value None = None
wrapped_value (Some v) = js_operators.as_signed_value (js.number (pos 64)) v

-- what the template of an operator gives on two values, if its meaning has one
abbrev pub template_value : BinaryOp → js.Value → js.Value → Option js.Value
template_value BooleanEqual v w = js_operators.binary_value Op.StrictEqual v w
template_value BooleanNotEqual v w = js_operators.binary_value Op.StrictNotEqual v w
template_value BooleanOr v w = boolean_of (js_operators.binary_value Op.BitOr v w)
template_value BooleanAnd v w = boolean_of (js_operators.binary_value Op.BitAnd v w)
template_value IntAdd v w = or_zero_value (js_operators.binary_value Op.Add v w)
template_value IntSubtract v w = or_zero_value (js_operators.binary_value Op.Subtract v w)
template_value IntMultiply v w = js_operators.imul_value v w
template_value IntOr v w = js_operators.binary_value Op.BitOr v w
template_value IntAnd v w = js_operators.binary_value Op.BitAnd v w
template_value IntXor v w = js_operators.binary_value Op.BitXor v w
template_value IntShiftLeft v w = js_operators.binary_value Op.ShiftLeft v w
template_value IntShiftRightLogical v w = or_zero_value (js_operators.binary_value Op.ShiftRightUnsigned v w)
template_value IntShiftRightArithmetic v w = js_operators.binary_value Op.ShiftRight v w
template_value IntEqual v w = js_operators.binary_value Op.StrictEqual v w
template_value IntNotEqual v w = js_operators.binary_value Op.StrictNotEqual v w
template_value IntLess v w = js_operators.binary_value Op.Less v w
template_value IntLessOrEqual v w = js_operators.binary_value Op.LessOrEqual v w
template_value IntGreater v w = js_operators.binary_value Op.Greater v w
template_value IntGreaterOrEqual v w = js_operators.binary_value Op.GreaterOrEqual v w
template_value LongAdd v w = wrapped_value (js_operators.binary_value Op.Add v w)
template_value LongSubtract v w = wrapped_value (js_operators.binary_value Op.Subtract v w)
template_value LongMultiply v w = wrapped_value (js_operators.binary_value Op.Multiply v w)
template_value LongOr v w = js_operators.binary_value Op.BitOr v w
template_value LongAnd v w = js_operators.binary_value Op.BitAnd v w
template_value LongXor v w = js_operators.binary_value Op.BitXor v w
template_value LongEqual v w = js_operators.binary_value Op.StrictEqual v w
template_value LongNotEqual v w = js_operators.binary_value Op.StrictNotEqual v w
template_value LongLess v w = js_operators.binary_value Op.Less v w
template_value LongLessOrEqual v w = js_operators.binary_value Op.LessOrEqual v w
template_value LongGreater v w = js_operators.binary_value Op.Greater v w
template_value LongGreaterOrEqual v w = js_operators.binary_value Op.GreaterOrEqual v w
template_value _ v w = None

-- the operators whose templates take the values of their operands as they are: all but the shifts of longs
abbrev pub is_direct : BinaryOp → Bool
is_direct LongShiftLeft = false
is_direct LongShiftRightLogical = false
is_direct LongShiftRightArithmetic = false
is_direct o = is_simple o

-- a value of the IR of this type, and what stands for it
pub record Given (w : World) (t : IrType) (v : ir.Value) (o : Option js.Value) : Type 0 where
  pub value : js.Value
  pub is : o ≡ Some value
  pub alike : SameValue w t v value

-- where the IR's operator gives a value, its template gives what stands for it; no operator here throws
abbrev pub GivenIf : World → IrType → ir_operators.Answer → Option js.Value → Type 0
GivenIf w t ir_operators.lacks o = Unit {0}
GivenIf w t (ir_operators.answers v) o = Given w t v o
GivenIf w t (ir_operators.raises c message) o = ⊥

pub number_given : (w : World) (t : IrType) (z : ℤ) (o : Option js.Value) → o ≡ Some (js.number z) → FitsSigned w32 z → suits t (ir.number z) ≡ true → Given w t (ir.number z) o
number_given w t z o e f k = record { value = js.number z; is = e; alike = record { stands = same_number z f; suits = k; shaped = tt } }

boolean_given : (w : World) (b : Bool) (o : Option js.Value) → o ≡ Some (js.boolean b) → Given w Boolean (ir.boolean b) o
boolean_given w b o e = record { value = js.boolean b; is = e; alike = record { stands = same_boolean b; suits = refl; shaped = tt } }

pub long_given : (w : World) (z : ℤ) (o : Option js.Value) → o ≡ Some (js.big_int z) → FitsSigned w64 z → Given w Long (ir.long z) o
long_given w z o e f = record { value = js.big_int z; is = e; alike = record { stands = same_long z f; suits = refl; shaped = tt } }

booleans_alike : (w : World) (op : BinaryOp) (a b : Bool) → is_direct op ≡ true → GivenIf w (binary_result op) (ir_operators.boolean_value op a b) (template_value op (js.boolean a) (js.boolean b))
booleans_alike w BooleanEqual a b h = boolean_given w (ir_operators.is_same_boolean a b) _ (ap (λ (c : Bool). Some (js.boolean c)) (same-boolean a b))
booleans_alike w BooleanNotEqual a b h = boolean_given w (not (ir_operators.is_same_boolean a b)) _ (ap (λ (c : Bool). Some (js.boolean (not c))) (same-boolean a b))
booleans_alike w BooleanOr a b h = boolean_given w (a || b) _ (or_boolean a b)
booleans_alike w BooleanAnd a b h = boolean_given w (a && b) _ (and_boolean a b)
booleans_alike w StrictEqual a b h = impossible h
booleans_alike w StrictNotEqual a b h = impossible h
booleans_alike w StringConcatenate a b h = impossible h
booleans_alike w _ a b h = tt

number_here : (w : World) (z : ℤ) (o : Option js.Value) → o ≡ Some (js.number z) → FitsSigned w32 z → Given w Int (ir.number z) o
number_here w z o e f = number_given w Int z o e f refl

numbers_alike : (w : World) (op : BinaryOp) (a b : ℤ) → FitsSigned w32 a → FitsSigned w32 b → is_direct op ≡ true → GivenIf w (binary_result op) (ir_operators.number_value op a b) (template_value op (js.number a) (js.number b))
numbers_alike w IntAdd a b f g h = number_here w (signed.sum a b) _ (sum_value a b (sum-exact a b f g)) (wrapped-fits (a +ℤ b))
numbers_alike w IntSubtract a b f g h = number_here w (signed.difference a b) _ (difference_value a b (difference-exact a b f g)) (wrapped-fits (a -ℤ b))
numbers_alike w IntMultiply a b f g h = number_here w (signed.product a b) _ (ap (λ (z : ℤ). Some (js.number z)) (product-is a b f g)) (wrapped-fits _)
numbers_alike w IntOr a b f g h = number_here w (signed.bits_or a b) _ (ap (λ (z : ℤ). Some (js.number z)) (or-is a b f g)) (or-fits a b f g)
numbers_alike w IntAnd a b f g h = number_here w (signed.bits_and a b) _ (ap (λ (z : ℤ). Some (js.number z)) (and-is a b f g)) (and-fits a b f g)
numbers_alike w IntXor a b f g h = number_here w (signed.bits_xor a b) _ (ap (λ (z : ℤ). Some (js.number z)) (xor-is a b f g)) (xor-fits a b f g)
numbers_alike w IntShiftLeft a b f g h = number_here w (signed.shifted_left a b) _ (ap (λ (z : ℤ). Some (js.number z)) (left_shift-is a b f)) (wrapped-fits _)
numbers_alike w IntShiftRightLogical a b f g h = number_here w (signed.shifted_right_with_zeros a b) _ (ap (λ (z : ℤ). Some (js.number z)) (zero_shift-is a b f)) (zero_shift-fits a b f)
numbers_alike w IntShiftRightArithmetic a b f g h = number_here w (signed.shifted_right a b) _ (ap (λ (z : ℤ). Some (js.number z)) (right_shift-is a b f)) (shifted_right-fits a b f)
numbers_alike w IntEqual a b f g h = boolean_given w (int_eq a b) _ refl
numbers_alike w IntNotEqual a b f g h = boolean_given w (not (int_eq a b)) _ refl
numbers_alike w IntLess a b f g h = boolean_given w (int_lt a b) _ refl
numbers_alike w IntLessOrEqual a b f g h = boolean_given w (int_le a b) _ refl
numbers_alike w IntGreater a b f g h = boolean_given w (int_lt b a) _ refl
numbers_alike w IntGreaterOrEqual a b f g h = boolean_given w (int_le b a) _ refl
numbers_alike w IntDivide a b f g h = impossible h
numbers_alike w IntRemainder a b f g h = impossible h
numbers_alike w StrictEqual a b f g h = impossible h
numbers_alike w StrictNotEqual a b f g h = impossible h
numbers_alike w StringConcatenate a b f g h = impossible h
numbers_alike w _ a b f g h = tt

-- what is wrapped of a sum, a difference and a product of longs
wrapped_long : (o : Option ℤ) (z : ℤ) → o ≡ Some z → wrapped_value (js_operators.big o) ≡ Some (js.big_int (longs.wrapped z))
wrapped_long o z e = ap (λ (o : Option ℤ). wrapped_value (js_operators.big o)) e ∙ ap (λ (n : ℤ). Some (js.big_int n)) (on_longs.cut-is z)

longs_alike : (w : World) (op : BinaryOp) (a b : ℤ) → FitsSigned w64 a → FitsSigned w64 b → is_direct op ≡ true → GivenIf w (binary_result op) (ir_operators.long_value op a b) (template_value op (js.big_int a) (js.big_int b))
longs_alike w LongAdd a b f g h = long_given w (longs.sum a b) _ (wrapped_long _ (a +ℤ b) (on_longs.sum-is a b f g)) (on_longs.wrapped-fits (a +ℤ b))
longs_alike w LongSubtract a b f g h = long_given w (longs.difference a b) _ (wrapped_long _ (a -ℤ b) (on_longs.difference-is a b f g)) (on_longs.wrapped-fits (a -ℤ b))
longs_alike w LongMultiply a b f g h = long_given w (longs.product a b) _ (wrapped_long _ (a *ℤ b) (on_longs.product-is a b f g)) (on_longs.wrapped-fits (a *ℤ b))
longs_alike w LongOr a b f g h = long_given w (longs.bits_or a b) _ (ap (λ (z : ℤ). Some (js.big_int z)) (on_longs.or-is a b f g)) (on_longs.or-fits a b f g)
longs_alike w LongAnd a b f g h = long_given w (longs.bits_and a b) _ (ap (λ (z : ℤ). Some (js.big_int z)) (on_longs.and-is a b f g)) (on_longs.and-fits a b f g)
longs_alike w LongXor a b f g h = long_given w (longs.bits_xor a b) _ (ap (λ (z : ℤ). Some (js.big_int z)) (on_longs.xor-is a b f g)) (on_longs.xor-fits a b f g)
longs_alike w LongEqual a b f g h = boolean_given w (int_eq a b) _ refl
longs_alike w LongNotEqual a b f g h = boolean_given w (not (int_eq a b)) _ refl
longs_alike w LongLess a b f g h = boolean_given w (int_lt a b) _ refl
longs_alike w LongLessOrEqual a b f g h = boolean_given w (int_le a b) _ refl
longs_alike w LongGreater a b f g h = boolean_given w (int_lt b a) _ refl
longs_alike w LongGreaterOrEqual a b f g h = boolean_given w (int_le b a) _ refl
longs_alike w LongDivide a b f g h = impossible h
longs_alike w LongRemainder a b f g h = impossible h
longs_alike w StrictEqual a b f g h = impossible h
longs_alike w StrictNotEqual a b f g h = impossible h
longs_alike w StringConcatenate a b f g h = impossible h
longs_alike w _ a b f g h = tt

-- on values of other kinds none of these operators gives anything
others_alike : (w : World) (t : IrType) (op : BinaryOp) (v1 v2 : ir.Value) (o : Option js.Value) → is_direct op ≡ true → GivenIf w t (ir_operators.any_value op v1 v2) o
others_alike w t StrictEqual v1 v2 o h = impossible h
others_alike w t StrictNotEqual v1 v2 o h = impossible h
others_alike w t StringConcatenate v1 v2 o h = impossible h
others_alike w t _ v1 v2 o h = tt

shift_alike : (w : World) (t : IrType) (op : BinaryOp) (a b : ℤ) (o : Option js.Value) → is_direct op ≡ true → GivenIf w t (ir_operators.shift_value op a b) o
shift_alike w t StrictEqual a b o h = impossible h
shift_alike w t StrictNotEqual a b o h = impossible h
shift_alike w t StringConcatenate a b o h = impossible h
shift_alike w t LongShiftLeft a b o h = impossible h
shift_alike w t LongShiftRightLogical a b o h = impossible h
shift_alike w t LongShiftRightArithmetic a b o h = impossible h
shift_alike w t _ a b o h = tt

-- the operators but for division, shifts of longs and joins
pub values_alike : (w : World) (r q : Bool) (op : BinaryOp) (v1 v2 : ir.Value) (x1 x2 : js.Value) → is_direct op ≡ true → Stands w r v1 x1 → Stands w q v2 x2 → GivenIf w (binary_result op) (ir_operators.binary_value op v1 v2) (template_value op x1 x2)
values_alike w r q op _ _ _ _ h (same_boolean a) (same_boolean b) = booleans_alike w op a b h
values_alike w r q op _ _ _ _ h (same_number a f) (same_number b g) = numbers_alike w op a b f g h
values_alike w r q op _ _ _ _ h (same_long a f) (same_long b g) = longs_alike w op a b f g h
values_alike w r q op _ _ _ _ h (same_long a f) (same_number b g) = shift_alike w (binary_result op) op a b _ h
values_alike w r q op v1 v2 x1 x2 h _ _ = others_alike w (binary_result op) op v1 v2 (template_value op x1 x2) h
