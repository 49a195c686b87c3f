-- The codes of the operators.
use Rattle.std.specs.Prelude.{ℕ, Option, Some, None, List, [], ◌∷◌, ◌==◌, if◌then◌else◌}
use Rattle.sj_trees.specs.declared.operators.BinaryOp.{BinaryOp}
use Rattle.sj_trees.specs.declared.operators.BinaryOp.TheVariants.{StrictEqual, StrictNotEqual, StringConcatenate, BooleanEqual, BooleanNotEqual, BooleanOr, BooleanAnd, IntAdd, IntSubtract, IntMultiply, IntDivide, IntRemainder, IntOr, IntAnd, IntXor, IntShiftLeft, IntShiftRightLogical, IntShiftRightArithmetic, IntEqual, IntNotEqual, IntLess, IntLessOrEqual, IntGreater, IntGreaterOrEqual, LongAdd, LongSubtract, LongMultiply, LongDivide, LongRemainder, LongOr, LongAnd, LongXor, LongShiftLeft, LongShiftRightLogical, LongShiftRightArithmetic, LongEqual, LongNotEqual, LongLess, LongLessOrEqual, LongGreater, LongGreaterOrEqual}
use Rattle.sj_trees.specs.declared.operators.UnaryOp.{UnaryOp}
use Rattle.sj_trees.specs.declared.operators.UnaryOp.TheVariants.{BooleanNot, CharToInt, ByteToInt, ShortToInt, IntToLong, IntToChar, IntToByte, IntToShort, LongToInt}

-- the code of an operator with one operand
abbrev pub unary_code : UnaryOp → ℕ
unary_code BooleanNot = 1
unary_code CharToInt = 2
unary_code ByteToInt = 3
unary_code ShortToInt = 4
unary_code IntToLong = 5
unary_code IntToChar = 6
unary_code IntToByte = 7
unary_code IntToShort = 8
unary_code LongToInt = 9

-- the operators with one operand
abbrev pub unary_operators : List UnaryOp
unary_operators =
    BooleanNot ∷ CharToInt ∷ ByteToInt ∷ ShortToInt ∷ IntToLong ∷ IntToChar ∷
    IntToByte ∷ IntToShort ∷ LongToInt ∷ []

-- the first of these operators that has the code
abbrev pub unary_among : List UnaryOp → ℕ → Option UnaryOp
unary_among [] n = None
unary_among (o ∷ os) n = if n == unary_code o then Some o else unary_among os n

-- the operator with one operand that has the code
abbrev pub unary_with : ℕ → Option UnaryOp
unary_with = unary_among unary_operators

-- the code of an operator with two operands
abbrev pub binary_code : BinaryOp → ℕ
binary_code StrictEqual = 1
binary_code StrictNotEqual = 2
binary_code StringConcatenate = 3
binary_code BooleanEqual = 4
binary_code BooleanNotEqual = 5
binary_code BooleanOr = 6
binary_code BooleanAnd = 7
binary_code IntAdd = 8
binary_code IntSubtract = 9
binary_code IntMultiply = 10
binary_code IntDivide = 11
binary_code IntRemainder = 12
binary_code IntOr = 13
binary_code IntAnd = 14
binary_code IntXor = 15
binary_code IntShiftLeft = 16
binary_code IntShiftRightLogical = 17
binary_code IntShiftRightArithmetic = 18
binary_code IntEqual = 19
binary_code IntNotEqual = 20
binary_code IntLess = 21
binary_code IntLessOrEqual = 22
binary_code IntGreater = 23
binary_code IntGreaterOrEqual = 24
binary_code LongAdd = 25
binary_code LongSubtract = 26
binary_code LongMultiply = 27
binary_code LongDivide = 28
binary_code LongRemainder = 29
binary_code LongOr = 30
binary_code LongAnd = 31
binary_code LongXor = 32
binary_code LongShiftLeft = 33
binary_code LongShiftRightLogical = 34
binary_code LongShiftRightArithmetic = 35
binary_code LongEqual = 36
binary_code LongNotEqual = 37
binary_code LongLess = 38
binary_code LongLessOrEqual = 39
binary_code LongGreater = 40
binary_code LongGreaterOrEqual = 41

-- the operators with two operands
abbrev pub binary_operators : List BinaryOp
binary_operators =
    StrictEqual ∷ StrictNotEqual ∷ StringConcatenate ∷ BooleanEqual ∷ BooleanNotEqual ∷ BooleanOr ∷
    BooleanAnd ∷ IntAdd ∷ IntSubtract ∷ IntMultiply ∷ IntDivide ∷ IntRemainder ∷
    IntOr ∷ IntAnd ∷ IntXor ∷ IntShiftLeft ∷ IntShiftRightLogical ∷ IntShiftRightArithmetic ∷
    IntEqual ∷ IntNotEqual ∷ IntLess ∷ IntLessOrEqual ∷ IntGreater ∷ IntGreaterOrEqual ∷
    LongAdd ∷ LongSubtract ∷ LongMultiply ∷ LongDivide ∷ LongRemainder ∷ LongOr ∷
    LongAnd ∷ LongXor ∷ LongShiftLeft ∷ LongShiftRightLogical ∷ LongShiftRightArithmetic ∷ LongEqual ∷
    LongNotEqual ∷ LongLess ∷ LongLessOrEqual ∷ LongGreater ∷ LongGreaterOrEqual ∷ []

-- the first of these operators that has the code
abbrev pub binary_among : List BinaryOp → ℕ → Option BinaryOp
binary_among [] n = None
binary_among (o ∷ os) n = if n == binary_code o then Some o else binary_among os n

-- the operator with two operands that has the code
abbrev pub binary_with : ℕ → Option BinaryOp
binary_with = binary_among binary_operators
