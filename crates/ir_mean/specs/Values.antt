-- Trees by themselves, each with the value that it gives, or none where it is wrong.
use Rattle.std.specs.Prelude.{ℕ, ◌-◌, ◌^◌, true, false, List, [], ◌∷◌, map, pos, negsuc, codes, Option, Some, None}
use Rattle.sj_names.specs.declared.references.BaseRef.TheVariants as BaseRef
use Rattle.outcomes.specs.Outcome.{End, Done, Going, Wrong}
use Rattle.sj_trees.specs.Term.{Term, no_terms, more_terms, skip, block_of, var_def, labeled, return_to, if_then, unary_op, binary_op, undefined_literal, null_literal, boolean_literal, char_literal, long_literal, array_value, byte_literal, short_literal, int_literal, string_literal, var_ref, log_line}
use Rattle.sj_trees.specs.declared.operators.BinaryOp.{BinaryOp}
use Rattle.sj_trees.specs.declared.operators.BinaryOp.TheVariants.{StrictEqual, StrictNotEqual, StringConcatenate, LongAdd, LongSubtract, LongMultiply, LongDivide, LongRemainder, LongOr, LongAnd, LongXor, LongShiftLeft, LongShiftRightLogical, LongShiftRightArithmetic, LongEqual, LongNotEqual, LongLess, LongLessOrEqual, LongGreater, LongGreaterOrEqual, BooleanEqual, BooleanNotEqual, BooleanOr, BooleanAnd, IntAdd, IntSubtract, IntMultiply, IntDivide, IntRemainder, IntOr, IntAnd, IntXor, IntShiftLeft, IntShiftRightLogical, IntShiftRightArithmetic, IntEqual, IntNotEqual, IntLess, IntLessOrEqual, IntGreater, IntGreaterOrEqual}
use Rattle.sj_trees.specs.declared.operators.UnaryOp.TheVariants.{CharToInt, IntToLong, IntToChar, LongToInt, BooleanNot, ByteToInt, ShortToInt, IntToByte, IntToShort}
use Rattle.sj_trees.specs.declared.types.IrType.TheVariants as Types
use Rattle.ir_mean.specs.Meaning.{meaning}
use Rattle.ir_mean.specs.Rows.{nowhere}
use Rattle.ir_mean.specs.Shows.{outside}
use Rattle.ir_mean.specs.States.{Value, undefined, null, boolean, char, number, long, text, gives, Ended, ends}
use Rattle.ir_mean.specs.World.{opening}

abbrev pub given : End Ended → Option Value
given (Done (ends (gives v) env s)) = Some v
given (Done (ends _ env s)) = None
given Going = None
given Wrong = None

-- what a tree gives among no classes
abbrev pub value_of : Term → Option Value
value_of e = given (meaning [] 0 e outside (opening [])).end

abbrev pub Row : Type 0
Row = Term × Option Value

abbrev pub values : List Row → List (Option Value)
values = map (λ r. value_of r.0)

abbrev pub expected : List Row → List (Option Value)
expected = map (λ r. r.1)

abbrev whole : ℕ → Term
whole n = int_literal nowhere (pos n)

-- the number that is one more, below zero
abbrev minus : ℕ → Term
minus n = int_literal nowhere (negsuc n)

abbrev yes : Option Value
yes = Some (boolean true)

abbrev no : Option Value
no = Some (boolean false)

abbrev is_number : ℕ → Option Value
is_number n = Some (number (pos n))

abbrev below_zero : ℕ → Option Value
below_zero n = Some (number (negsuc n))

abbrev on : BinaryOp → Term → Term → Term
on o a b = binary_op nowhere o a b

abbrev true_tree : Term
true_tree = boolean_literal nowhere true

abbrev false_tree : Term
false_tree = boolean_literal nowhere false

abbrev pub literals : List Row
literals = (undefined_literal nowhere, Some undefined) ∷ (null_literal nowhere, Some null) ∷ (true_tree, yes) ∷ (byte_literal nowhere (negsuc 127), below_zero 127) ∷ (short_literal nowhere (pos 32767), is_number 32767) ∷ (char_literal nowhere 97, Some (char 97)) ∷ (long_literal nowhere (negsuc 4), Some (long (negsuc 4))) ∷ (whole 7, is_number 7) ∷ (string_literal nowhere (codes "a"), Some (text (codes "a"))) ∷ (skip nowhere, Some undefined) ∷ (log_line nowhere (string_literal nowhere (codes "a")), Some undefined) ∷ []

abbrev pub on_booleans : List Row
on_booleans = (unary_op nowhere BooleanNot true_tree, no) ∷ (on BooleanEqual false_tree false_tree, yes) ∷ (on BooleanEqual true_tree false_tree, no) ∷ (on BooleanNotEqual true_tree false_tree, yes) ∷ (on BooleanNotEqual true_tree true_tree, no) ∷ (on BooleanOr false_tree true_tree, yes) ∷ (on BooleanOr false_tree false_tree, no) ∷ (on BooleanAnd true_tree true_tree, yes) ∷ (on BooleanAnd true_tree false_tree, no) ∷ (on BooleanAnd true_tree (whole 1), None) ∷ []

-- sums, differences and products wrap; a quotient is rounded toward zero, and a remainder has the sign of the dividend
abbrev pub on_ints : List Row
on_ints = (on IntAdd (whole 2147483647) (whole 1), below_zero 2147483647) ∷ (on IntSubtract (minus 2147483647) (whole 1), is_number 2147483647) ∷ (on IntMultiply (whole 65536) (whole 65536), is_number 0) ∷ (on IntDivide (minus 6) (whole 2), below_zero 2) ∷ (on IntDivide (minus 2147483647) (minus 0), below_zero 2147483647) ∷ (on IntRemainder (minus 6) (whole 4), below_zero 2) ∷ (on IntRemainder (whole 7) (minus 3), is_number 3) ∷ (on IntDivide (whole 1) (whole 0), None) ∷ (on IntRemainder (whole 1) (whole 0), None) ∷ (on IntAdd (whole 1) true_tree, None) ∷ []

-- a shift is by the low five bits of its count
abbrev pub on_bits : List Row
on_bits = (on IntOr (whole 5) (whole 3), is_number 7) ∷ (on IntAnd (minus 0) (whole 255), is_number 255) ∷ (on IntXor (whole 5) (minus 0), below_zero 5) ∷ (on IntShiftLeft (whole 1) (whole 33), is_number 2) ∷ (on IntShiftLeft (whole 1) (whole 31), below_zero 2147483647) ∷ (on IntShiftRightLogical (minus 0) (whole 28), is_number 15) ∷ (on IntShiftRightArithmetic (minus 15) (whole 2), below_zero 3) ∷ []

abbrev pub compared : List Row
compared = (on IntEqual (whole 1) (whole 1), yes) ∷ (on IntEqual (whole 1) (minus 0), no) ∷ (on IntNotEqual (whole 1) (minus 0), yes) ∷ (on IntLess (minus 1) (minus 0), yes) ∷ (on IntLess (whole 2) (whole 2), no) ∷ (on IntLessOrEqual (whole 2) (whole 2), yes) ∷ (on IntLessOrEqual (whole 3) (whole 2), no) ∷ (on IntGreater (whole 2) (whole 1), yes) ∷ (on IntGreater (whole 2) (whole 2), no) ∷ (on IntGreaterOrEqual (whole 2) (whole 2), yes) ∷ (on IntGreaterOrEqual (minus 0) (whole 0), no) ∷ []

abbrev pub converted : List Row
converted = (unary_op nowhere IntToByte (whole 200), below_zero 55) ∷ (unary_op nowhere IntToShort (whole 32768), below_zero 32767) ∷ (unary_op nowhere IntToShort (minus 0), below_zero 0) ∷ (unary_op nowhere ByteToInt (byte_literal nowhere (negsuc 4)), below_zero 4) ∷ (unary_op nowhere ShortToInt (short_literal nowhere (pos 5)), is_number 5) ∷ (unary_op nowhere IntToByte true_tree, None) ∷ []

-- a block gives what its last tree gives, a label what leaves to it, and a branch is chosen; a local that isn't there, a jump to no label and an empty
-- block are wrong
abbrev pub in_order : List Row
in_order = (block_of nowhere (more_terms (var_def nowhere (codes "x") Types.Int false (whole 3)) (more_terms (var_ref nowhere (codes "x") Types.Int) no_terms)), is_number 3) ∷ (var_ref nowhere (codes "x") Types.Int, None) ∷ (labeled nowhere (codes "l") Types.Int (block_of nowhere (more_terms (return_to nowhere (whole 1) (codes "l")) (more_terms (whole 2) no_terms))), is_number 1) ∷ (labeled nowhere (codes "l") Types.Int (whole 2), is_number 2) ∷ (return_to nowhere (whole 1) (codes "l"), None) ∷ (if_then nowhere false_tree (whole 1) (whole 2) Types.Int, is_number 2) ∷ (if_then nowhere (whole 1) (whole 1) (whole 2) Types.Int, None) ∷ (block_of nowhere no_terms, None) ∷ []

abbrev big : ℕ → Term
big n = long_literal nowhere (pos n)

abbrev big_minus : ℕ → Term
big_minus n = long_literal nowhere (negsuc n)

abbrev is_long : ℕ → Option Value
is_long n = Some (long (pos n))

abbrev long_below_zero : ℕ → Option Value
long_below_zero n = Some (long (negsuc n))

abbrev is_text : List ℕ → Option Value
is_text us = Some (text us)

abbrev word : List ℕ → Term
word us = string_literal nowhere us

abbrev letter : ℕ → Term
letter u = char_literal nowhere u

-- at 64 bits, as ints are at 32; a shift is by the low six bits of its count, which is an int
abbrev pub on_longs : List Row
on_longs = (on LongAdd (big (2 ^ 63 - 1)) (big 1), long_below_zero (2 ^ 63 - 1)) ∷ (on LongSubtract (big_minus (2 ^ 63 - 1)) (big 1), is_long (2 ^ 63 - 1)) ∷ (on LongMultiply (big (2 ^ 32)) (big (2 ^ 32)), is_long 0) ∷ (on LongDivide (big_minus 6) (big 2), long_below_zero 2) ∷ (on LongDivide (big_minus (2 ^ 63 - 1)) (big_minus 0), long_below_zero (2 ^ 63 - 1)) ∷ (on LongRemainder (big_minus 6) (big 4), long_below_zero 2) ∷ (on LongDivide (big 1) (big 0), None) ∷ (on LongOr (big 5) (big 3), is_long 7) ∷ (on LongAnd (big_minus 0) (big 255), is_long 255) ∷ (on LongXor (big 5) (big_minus 0), long_below_zero 5) ∷ (on LongShiftLeft (big 5) (whole 0), is_long 5) ∷ (on LongShiftLeft (big 5) (whole 64), is_long 5) ∷ (on LongShiftLeft (big 1) (whole 65), is_long 2) ∷ (on LongShiftRightArithmetic (big_minus (2 ^ 63 - 1)) (minus 0), long_below_zero 0) ∷ (on LongShiftLeft (big 1) (whole 63), long_below_zero (2 ^ 63 - 1)) ∷ (on LongShiftRightLogical (big_minus 0) (whole 60), is_long 15) ∷ (on LongShiftRightArithmetic (big_minus 15) (whole 2), long_below_zero 3) ∷ (on LongShiftLeft (big 1) (big 1), None) ∷ (on LongAdd (big 1) (whole 1), None) ∷ (on LongEqual (big 1) (big_minus 0), no) ∷ (on LongNotEqual (big 1) (big_minus 0), yes) ∷ (on LongLess (big_minus 1) (big_minus 0), yes) ∷ (on LongLess (big 2) (big 2), no) ∷ (on LongLessOrEqual (big 2) (big 2), yes) ∷ (on LongGreater (big 2) (big 2), no) ∷ (on LongGreaterOrEqual (big 2) (big 2), yes) ∷ []

abbrev pub widened : List Row
widened = (unary_op nowhere IntToLong (minus 4), long_below_zero 4) ∷ (unary_op nowhere LongToInt (big 4294967295), below_zero 0) ∷ (unary_op nowhere LongToInt (big 2147483648), below_zero 2147483647) ∷ (unary_op nowhere IntToChar (whole 65633), Some (char 97)) ∷ (unary_op nowhere IntToChar (minus 0), Some (char 65535)) ∷ (unary_op nowhere CharToInt (letter 97), is_number 97) ∷ (unary_op nowhere CharToInt (whole 97), None) ∷ (unary_op nowhere LongToInt (whole 1), None) ∷ []

-- texts of values, joined; a char is its unit
abbrev pub joined : List Row
joined = (on StringConcatenate (word (codes "a")) (letter 98), is_text (codes "ab")) ∷ (on StringConcatenate (letter 55357) (letter 56832), is_text (55357 ∷ 56832 ∷ [])) ∷ (on StringConcatenate (minus 11) (big_minus 4), is_text (codes "-12-5")) ∷ (on StringConcatenate true_tree false_tree, is_text (codes "truefalse")) ∷ (on StringConcatenate (null_literal nowhere) (undefined_literal nowhere), is_text (codes "nullundefined")) ∷ (on StringConcatenate (word []) (whole 0), is_text (codes "0")) ∷ (on StringConcatenate (byte_literal nowhere (negsuc 127)) (word []), is_text (codes "-128")) ∷ (on StringConcatenate (array_value nowhere (record { dimensions = 1; base = BaseRef.Int }) no_terms) (word []), None) ∷ []

-- by kind and value: a char is no number, an int no long; two arrays are two
abbrev an_array : Term
an_array = array_value nowhere (record { dimensions = 1; base = BaseRef.Int }) no_terms

abbrev pub the_same : List Row
the_same = (on StrictEqual (letter 97) (letter 97), yes) ∷ (on StrictEqual (letter 97) (whole 97), no) ∷ (on StrictEqual (whole 1) (big 1), no) ∷ (on StrictEqual (whole 1) (byte_literal nowhere (pos 1)), yes) ∷ (on StrictNotEqual (big 1) (big 1), no) ∷ (on StrictEqual (word (codes "a")) (word (codes "a")), yes) ∷ (on StrictEqual (null_literal nowhere) (undefined_literal nowhere), no) ∷ (on StrictEqual true_tree true_tree, yes) ∷ (on StrictEqual an_array an_array, no) ∷ (on StrictNotEqual an_array an_array, yes) ∷ []
