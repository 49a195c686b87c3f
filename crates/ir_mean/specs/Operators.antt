-- What operators give on values.
use Rattle.std.specs.Prelude.{ℕ, zero, ◌^◌, ◌++◌, Bool, true, false, ◌&&◌, ◌||◌, not, List, [], ◌∷◌, ℤ, pos, int_lt, int_le, nat_eq, codes, Option, Some, None}
use Rattle.std.specs.Ordering.{int_eq}
use Rattle.int_arithmetic.specs.Decimals.{decimal_text}
use Rattle.int_arithmetic.specs.Longs as longs
use Rattle.int_arithmetic.specs.Modulo.{modulo}
use Rattle.int_arithmetic.specs.Signed.{wrapped, wrapped_to_byte, wrapped_to_short, sum, difference, product, quotient, remainder, bits_or, bits_and, bits_xor, shifted_left, shifted_right, shifted_right_with_zeros}
use Rattle.sj_trees.specs.declared.operators.BinaryOp.{BinaryOp}
use Rattle.sj_trees.specs.declared.operators.BinaryOp.TheVariants.{StrictEqual, StrictNotEqual, StringConcatenate, BooleanEqual, BooleanNotEqual, BooleanOr, BooleanAnd, IntAdd, IntSubtract, IntMultiply, IntDivide, IntRemainder, IntOr, IntAnd, IntXor, IntShiftLeft, IntShiftRightLogical, IntShiftRightArithmetic, IntEqual, IntNotEqual, IntLess, IntLessOrEqual, IntGreater, IntGreaterOrEqual, LongAdd, LongSubtract, LongMultiply, LongDivide, LongRemainder, LongOr, LongAnd, LongXor, LongShiftLeft, LongShiftRightLogical, LongShiftRightArithmetic, LongEqual, LongNotEqual, LongLess, LongLessOrEqual, LongGreater, LongGreaterOrEqual}
use Rattle.sj_trees.specs.declared.operators.UnaryOp.{UnaryOp}
use Rattle.sj_trees.specs.declared.operators.UnaryOp.TheVariants.{BooleanNot, CharToInt, ByteToInt, ShortToInt, IntToLong, IntToChar, IntToByte, IntToShort, LongToInt}
use Rattle.sj_names.specs.Same.{is_same_text}
use Rattle.ir_mean.specs.States.{Value, undefined, null, boolean, char, number, long, text, reference}

-- what an operator or a check answers: a value; that an exception of this class with this message is thrown; or nothing, where no case applies
pub data Answer : Type 0 where
  answers : Value → Answer
  raises : List ℕ → List ℕ → Answer
  lacks : Answer

abbrev pub is_same_boolean : Bool → Bool → Bool
is_same_boolean true b = b
is_same_boolean false b = not b

-- an operator on one value, which is of its kind
abbrev pub unary_value : UnaryOp → Value → Answer
unary_value BooleanNot (boolean b) = answers (boolean (not b))
unary_value CharToInt (char u) = answers (number (pos u))
unary_value ByteToInt (number z) = answers (number z)
unary_value ShortToInt (number z) = answers (number z)
unary_value IntToLong (number z) = answers (long z)
unary_value IntToChar (number z) = answers (char (modulo z (2 ^ 16)))
unary_value IntToByte (number z) = answers (number (wrapped_to_byte z))
unary_value IntToShort (number z) = answers (number (wrapped_to_short z))
unary_value LongToInt (long z) = answers (number (wrapped z))
unary_value _ _ = lacks

-- chars are the same by their units, other primitives by kind and value, objects by their addresses
abbrev pub is_same_value : Value → Value → Bool
is_same_value undefined undefined = true
is_same_value null null = true
is_same_value (boolean a) (boolean b) = is_same_boolean a b
is_same_value (char a) (char b) = nat_eq a b
is_same_value (number a) (number b) = int_eq a b
is_same_value (long a) (long b) = int_eq a b
is_same_value (text us) (text vs) = is_same_text us vs
is_same_value (reference a) (reference b) = nat_eq a b
is_same_value _ _ = false

-- the text of a value, which String_+ joins; an object has none
abbrev pub text_of : Value → Option (List ℕ)
text_of undefined = Some (codes "undefined")
text_of null = Some (codes "null")
text_of (boolean true) = Some (codes "true")
text_of (boolean false) = Some (codes "false")
text_of (char u) = Some (u ∷ [])
text_of (number z) = Some (decimal_text z)
text_of (long z) = Some (decimal_text z)
text_of (text us) = Some us
text_of (reference a) = None

abbrev pub joined : Option (List ℕ) → Option (List ℕ) → Answer
joined (Some us) (Some vs) = answers (text (us ++ vs))
joined _ _ = lacks

-- an operator that takes two values of any kinds
abbrev pub any_value : BinaryOp → Value → Value → Answer
any_value StrictEqual v w = answers (boolean (is_same_value v w))
any_value StrictNotEqual v w = answers (boolean (not (is_same_value v w)))
any_value StringConcatenate v w = joined (text_of v) (text_of w)
any_value _ v w = lacks

abbrev pub boolean_value : BinaryOp → Bool → Bool → Answer
boolean_value BooleanEqual a b = answers (boolean (is_same_boolean a b))
boolean_value BooleanNotEqual a b = answers (boolean (not (is_same_boolean a b)))
boolean_value BooleanOr a b = answers (boolean (a || b))
boolean_value BooleanAnd a b = answers (boolean (a && b))
boolean_value op a b = any_value op (boolean a) (boolean b)

-- an operation that throws where the divisor is zero
abbrev pub divided : (ℤ → Value) → (ℤ → ℤ → ℤ) → ℤ → ℤ → Answer
divided kind f a (pos zero) = raises (codes "java.lang.ArithmeticException") (codes "/ by zero")
divided kind f a b = answers (kind (f a b))

-- an operator on two numbers
abbrev pub number_value : BinaryOp → ℤ → ℤ → Answer
number_value IntAdd a b = answers (number (sum a b))
number_value IntSubtract a b = answers (number (difference a b))
number_value IntMultiply a b = answers (number (product a b))
number_value IntDivide a b = divided number quotient a b
number_value IntRemainder a b = divided number remainder a b
number_value IntOr a b = answers (number (bits_or a b))
number_value IntAnd a b = answers (number (bits_and a b))
number_value IntXor a b = answers (number (bits_xor a b))
number_value IntShiftLeft a b = answers (number (shifted_left a b))
number_value IntShiftRightLogical a b = answers (number (shifted_right_with_zeros a b))
number_value IntShiftRightArithmetic a b = answers (number (shifted_right a b))
number_value IntEqual a b = answers (boolean (int_eq a b))
number_value IntNotEqual a b = answers (boolean (not (int_eq a b)))
number_value IntLess a b = answers (boolean (int_lt a b))
number_value IntLessOrEqual a b = answers (boolean (int_le a b))
number_value IntGreater a b = answers (boolean (int_lt b a))
number_value IntGreaterOrEqual a b = answers (boolean (int_le b a))
number_value op a b = any_value op (number a) (number b)

-- an operator on two longs
abbrev pub long_value : BinaryOp → ℤ → ℤ → Answer
long_value LongAdd a b = answers (long (longs.sum a b))
long_value LongSubtract a b = answers (long (longs.difference a b))
long_value LongMultiply a b = answers (long (longs.product a b))
long_value LongDivide a b = divided long (longs.quotient) a b
long_value LongRemainder a b = divided long (longs.remainder) a b
long_value LongOr a b = answers (long (longs.bits_or a b))
long_value LongAnd a b = answers (long (longs.bits_and a b))
long_value LongXor a b = answers (long (longs.bits_xor a b))
long_value LongEqual a b = answers (boolean (int_eq a b))
long_value LongNotEqual a b = answers (boolean (not (int_eq a b)))
long_value LongLess a b = answers (boolean (int_lt a b))
long_value LongLessOrEqual a b = answers (boolean (int_le a b))
long_value LongGreater a b = answers (boolean (int_lt b a))
long_value LongGreaterOrEqual a b = answers (boolean (int_le b a))
long_value op a b = any_value op (long a) (long b)

-- a long is shifted by a number
abbrev pub shift_value : BinaryOp → ℤ → ℤ → Answer
shift_value LongShiftLeft a b = answers (long (longs.shifted_left a b))
shift_value LongShiftRightLogical a b = answers (long (longs.shifted_right_with_zeros a b))
shift_value LongShiftRightArithmetic a b = answers (long (longs.shifted_right a b))
shift_value op a b = any_value op (long a) (number b)

-- an operator on two values, by their kinds
abbrev pub binary_value : BinaryOp → Value → Value → Answer
binary_value op (boolean a) (boolean b) = boolean_value op a b
binary_value op (number a) (number b) = number_value op a b
binary_value op (long a) (long b) = long_value op a b
binary_value op (long a) (number b) = shift_value op a b
binary_value op v w = any_value op v w
