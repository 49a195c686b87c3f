-- Expressions by themselves, each with the value that it comes to, or none where it is wrong. `none_` is a name that nothing declares, so what uses
-- it is wrong where it is evaluated.
use Rattle.std.specs.Prelude.{ℕ, ◌+◌, ◌-◌, ◌^◌, true, false, List, [], ◌∷◌, map, pos, negsuc, codes, Option, Some, None}
use Rattle.js_tree.specs.Terms.{Expression, no_expressions, expression, null_literal, boolean_literal, undefined_literal, number_literal, big_literal, text_literal, name_use, property_of, index_of, method_call_of, new_array_of, list_of, binary_of, unary_of, conditional_of, host_call, host_call_of_two}
use Rattle.js_tree.specs.declared.operators.BinaryOperator.TheVariants.{Add, Subtract, Multiply, Divide, Remainder, BitAnd, BitOr, BitXor, ShiftLeft, ShiftRight, ShiftRightUnsigned, StrictEqual, StrictNotEqual, Less, LessOrEqual, Greater, GreaterOrEqual, And, Or, In, InstanceOf}
use Rattle.js_tree.specs.declared.operators.HostFunction.TheVariants.{BigInt, Number, StringFromCharCode}
use Rattle.js_tree.specs.declared.operators.HostOperation.TheVariants.{BigIntAsIntN, BigIntAsUintN, MathImul}
use Rattle.js_tree.specs.declared.operators.UnaryOperator.TheVariants.{Not, TypeOf}
use Rattle.outcomes.specs.Outcome.{End, Done, Going, Wrong}
use Rattle.js_mean.specs.Meaning.{evaluate, below, top_scope, opening}
use Rattle.js_mean.specs.States.{Value, undefined, boolean, number, big_int, text, ExpressionEnd, gives, throws}

abbrev pub given : End ExpressionEnd → Option Value
given (Done (gives v s)) = Some v
given (Done (throws v s)) = None
given Going = None
given Wrong = None

-- what an expression comes to in no file
abbrev pub value_of : Expression → Option Value
value_of e = given (evaluate [] (below [] 0) e (top_scope [] []) (opening [])).end

abbrev pub Row : Type 0
Row = Expression × Option Value

abbrev pub values : List Row → List (Option Value)
values = map (λ r. value_of r.0)

abbrev pub expected : List Row → List (Option Value)
expected = map (λ r. r.1)

abbrev whole : ℕ → Expression
whole n = number_literal (pos n)

-- the number that is one more, below zero
abbrev minus : ℕ → Expression
minus n = number_literal (negsuc n)

abbrev none : Expression
none = name_use (codes "none_")

abbrev yes : Option Value
yes = Some (boolean true)

abbrev no : Option Value
no = Some (boolean false)

abbrev is_number : ℕ → Option Value
is_number n = Some (number (pos n))

abbrev below_zero : ℕ → Option Value
below_zero n = Some (number (negsuc n))

-- which values are true (7.1.2)
abbrev pub negations : List Row
negations = (unary_of Not undefined_literal, yes) ∷ (unary_of Not null_literal, yes) ∷ (unary_of Not (boolean_literal true), no) ∷ (unary_of Not (boolean_literal false), yes) ∷ (unary_of Not (whole 0), yes) ∷ (unary_of Not (minus 0), no) ∷ (unary_of Not (text_literal []), yes) ∷ (unary_of Not (text_literal (codes "a")), no) ∷ (unary_of Not none, None) ∷ []

-- `&&`, `||` and a conditional evaluate no more than they need, and give an operand as it is
abbrev pub choices : List Row
choices = (binary_of (whole 0) And none, is_number 0) ∷ (binary_of (whole 1) And (text_literal (codes "a")), Some (text (codes "a"))) ∷ (binary_of (whole 1) And none, None) ∷ (binary_of (text_literal (codes "a")) Or none, Some (text (codes "a"))) ∷ (binary_of null_literal Or (whole 2), is_number 2) ∷ (binary_of undefined_literal Or none, None) ∷ (conditional_of (whole 1) (whole 2) none, is_number 2) ∷ (conditional_of null_literal none (whole 3), is_number 3) ∷ []

-- values of two kinds are never equal
abbrev pub equalities : List Row
equalities = (binary_of (whole 1) StrictEqual (whole 1), yes) ∷ (binary_of (whole 1) StrictEqual (minus 0), no) ∷ (binary_of (whole 1) StrictEqual (boolean_literal true), no) ∷ (binary_of (whole 1) StrictEqual (text_literal (codes "1")), no) ∷ (binary_of null_literal StrictEqual undefined_literal, no) ∷ (binary_of null_literal StrictEqual null_literal, yes) ∷ (binary_of undefined_literal StrictEqual undefined_literal, yes) ∷ (binary_of (boolean_literal false) StrictEqual (boolean_literal false), yes) ∷ (binary_of (text_literal (codes "a")) StrictEqual (text_literal (codes "a")), yes) ∷ (binary_of (text_literal (codes "a")) StrictNotEqual (text_literal (codes "b")), yes) ∷ (binary_of (whole 1) StrictNotEqual (whole 1), no) ∷ []

-- a boolean and null are compared as Numbers, and texts by their units; undefined is no whole Number
abbrev pub comparisons : List Row
comparisons = (binary_of (minus 1) Less (minus 0), yes) ∷ (binary_of (whole 2) Less (whole 2), no) ∷ (binary_of (whole 2) LessOrEqual (whole 2), yes) ∷ (binary_of (whole 3) LessOrEqual (whole 2), no) ∷ (binary_of (whole 2) Greater (whole 1), yes) ∷ (binary_of (whole 2) Greater (whole 2), no) ∷ (binary_of (whole 2) GreaterOrEqual (whole 2), yes) ∷ (binary_of (minus 0) GreaterOrEqual null_literal, no) ∷ (binary_of (boolean_literal true) Less (whole 2), yes) ∷ (binary_of undefined_literal Less (whole 1), None) ∷ (binary_of (text_literal (codes "a")) Less (text_literal (codes "b")), yes) ∷ (binary_of (text_literal (codes "b")) Less (text_literal (codes "a")), no) ∷ (binary_of (text_literal (codes "a")) GreaterOrEqual (text_literal (codes "a")), yes) ∷ (binary_of (text_literal (codes "a")) LessOrEqual (text_literal (codes "ab")), yes) ∷ (binary_of (text_literal (codes "ab")) Greater (text_literal (codes "b")), no) ∷ (binary_of (text_literal (codes "1")) Less (whole 2), None) ∷ []

-- whole Numbers are exact up to 2 ^ 53, and negative zero is no whole Number
abbrev pub sums : List Row
sums = (whole (2 ^ 53), is_number (2 ^ 53)) ∷ (whole (2 ^ 53 + 1), None) ∷ (binary_of (whole (2 ^ 53)) Add (whole 1), None) ∷ (binary_of (whole 2147483647) Add (whole 1), is_number 2147483648) ∷ (binary_of (whole 1) Subtract (whole 3), below_zero 1) ∷ (binary_of (whole 3) Multiply (minus 3), below_zero 11) ∷ (binary_of (whole 0) Multiply (minus 0), None) ∷ (host_call_of_two MathImul (whole 2147483647) (whole 2), below_zero 1) ∷ []

-- bits of 32, and a shift by the low five bits of its count; undefined has no bit
abbrev pub bits : List Row
bits = (binary_of undefined_literal BitOr (whole 0), is_number 0) ∷ (binary_of (whole 2147483648) BitOr (whole 0), below_zero 2147483647) ∷ (binary_of (boolean_literal true) BitAnd (whole 3), is_number 1) ∷ (binary_of (minus 0) BitAnd (whole 255), is_number 255) ∷ (binary_of (whole 5) BitXor (whole 1), is_number 4) ∷ (binary_of (whole 1) ShiftLeft (whole 33), is_number 2) ∷ (binary_of (minus 15) ShiftRight (whole 2), below_zero 3) ∷ (binary_of (minus 0) ShiftRightUnsigned (whole 28), is_number 15) ∷ (binary_of (text_literal (codes "a")) BitOr (whole 0), None) ∷ []

-- a quotient is rounded toward zero under `| 0`, where a division by zero is 0; by itself, or under
-- another `|`, also one whose right operand comes to 0, it has no value
abbrev pub ratios : List Row
ratios = (binary_of (binary_of (whole 7) Divide (whole 2)) BitOr (whole 0), is_number 3) ∷ (binary_of (binary_of (minus 6) Divide (whole 2)) BitOr (whole 0), below_zero 2) ∷ (binary_of (binary_of (minus 6) Remainder (whole 4)) BitOr (whole 0), below_zero 2) ∷ (binary_of (binary_of (whole 7) Divide (whole 0)) BitOr (whole 0), is_number 0) ∷ (binary_of (binary_of (whole 7) Remainder (whole 0)) BitOr (whole 0), is_number 0) ∷ (binary_of (whole 7) Divide (whole 2), None) ∷ (binary_of (binary_of (whole 7) Divide (whole 2)) BitOr (whole 1), None) ∷ (binary_of (binary_of (whole 7) Divide (whole 2)) BitOr (binary_of (whole 0) BitOr (whole 0)), None) ∷ (binary_of (binary_of (whole 7) Remainder (whole 2)) BitOr null_literal, None) ∷ []

abbrev big : ℕ → Expression
big n = big_literal (pos n)

abbrev big_minus : ℕ → Expression
big_minus n = big_literal (negsuc n)

abbrev is_big : ℕ → Option Value
is_big n = Some (big_int (pos n))

abbrev big_below_zero : ℕ → Option Value
big_below_zero n = Some (big_int (negsuc n))

abbrev word : List ℕ → Expression
word us = text_literal us

abbrev is_text : List ℕ → Option Value
is_text us = Some (text us)

-- a text and any other value are joined as texts; an object has no text here
abbrev pub joined : List Row
joined = (binary_of (word (codes "a")) Add (word (codes "b")), is_text (codes "ab")) ∷ (binary_of (word (codes "a")) Add (minus 11), is_text (codes "a-12")) ∷ (binary_of (whole 0) Add (word []), is_text (codes "0")) ∷ (binary_of (word []) Add (big (2 ^ 63)), is_text (codes "9223372036854775808")) ∷ (binary_of (word []) Add null_literal, is_text (codes "null")) ∷ (binary_of (word []) Add undefined_literal, is_text (codes "undefined")) ∷ (binary_of (boolean_literal true) Add (word []), is_text (codes "true")) ∷ (binary_of (boolean_literal false) Add (word []), is_text (codes "false")) ∷ (binary_of (word []) Add (list_of no_expressions), None) ∷ (binary_of (boolean_literal true) Add (whole 1), is_number 2) ∷ (binary_of (big 1) Add (whole 1), None) ∷ (host_call StringFromCharCode (whole 97), is_text (codes "a")) ∷ (host_call StringFromCharCode (whole 65633), is_text (codes "a")) ∷ (host_call StringFromCharCode (minus 0), is_text (65535 ∷ [])) ∷ (host_call StringFromCharCode (big 97), None) ∷ []

-- BigInts have their sign and at most 128 bits; division rounds toward zero, and a remainder has the dividend's sign
abbrev pub on_bigs : List Row
on_bigs = (binary_of (big (2 ^ 62)) Multiply (big 4), is_big (2 ^ 64)) ∷ (binary_of (big 0) Multiply (big_minus 0), is_big 0) ∷ (binary_of (big_minus 6) Divide (big 2), big_below_zero 2) ∷ (binary_of (big_minus 6) Remainder (big 4), big_below_zero 2) ∷ (binary_of (big 1) Divide (big 0), None) ∷ (binary_of (big 1) Remainder (big 0), None) ∷ (binary_of (binary_of (big 7) Remainder (big 4)) BitOr (big 8), is_big 11) ∷ (binary_of (big 1) Subtract (big 3), big_below_zero 1) ∷ (binary_of (big_minus 0) BitAnd (big 255), is_big 255) ∷ (binary_of (big_minus 0) BitXor (big 5), big_below_zero 5) ∷ (binary_of (big_minus 7) BitOr (big 1), big_below_zero 6) ∷ (binary_of (big 1) ShiftLeft (big 65), is_big (2 ^ 65)) ∷ (binary_of (big 1) ShiftLeft (big 127), None) ∷ (binary_of (big 0) ShiftLeft (big (2 ^ 62)), is_big 0) ∷ (binary_of (big 8) ShiftLeft (big_minus 1), is_big 2) ∷ (binary_of (big_minus 0) ShiftRight (big (2 ^ 62)), big_below_zero 0) ∷ (binary_of (big_minus 4) ShiftRight (big 1), big_below_zero 2) ∷ (binary_of (big 1) ShiftRightUnsigned (big 1), None) ∷ (binary_of (big 1) BitAnd (whole 1), None) ∷ []

-- a BigInt and a Number are compared as they are, and are never equal
abbrev pub compared_bigs : List Row
compared_bigs = (binary_of (big 1) StrictEqual (big 1), yes) ∷ (binary_of (big 1) StrictEqual (whole 1), no) ∷ (binary_of (big_minus 1) Less (big_minus 0), yes) ∷ (binary_of (big 2) Less (whole 2), no) ∷ (binary_of (whole 2) LessOrEqual (big 2), yes) ∷ (binary_of (big 3) Greater (whole 2), yes) ∷ (binary_of (big 0) GreaterOrEqual null_literal, yes) ∷ (unary_of Not (big 0), yes) ∷ (unary_of Not (big_minus 0), no) ∷ []

-- `BigInt`, `Number`, `BigInt.asIntN` and `BigInt.asUintN`
abbrev pub converted : List Row
converted = (host_call BigInt (minus 4), big_below_zero 4) ∷ (host_call BigInt (boolean_literal true), is_big 1) ∷ (host_call BigInt null_literal, None) ∷ (host_call Number (big_minus 4), below_zero 4) ∷ (host_call Number (big (2 ^ 53 + 1)), None) ∷ (host_call Number undefined_literal, None) ∷ (host_call_of_two BigIntAsIntN (whole 64) (big (2 ^ 62)), is_big (2 ^ 62)) ∷ (host_call_of_two BigIntAsIntN (whole 64) (binary_of (big (2 ^ 62)) Multiply (big 2)), big_below_zero (2 ^ 63 - 1)) ∷ (host_call_of_two BigIntAsIntN (whole 32) (big 4294967295), big_below_zero 0) ∷ (host_call_of_two BigIntAsIntN (whole 0) (big 5), is_big 0) ∷ (host_call_of_two BigIntAsIntN (whole 200) (big_minus 4), big_below_zero 4) ∷ (host_call_of_two BigIntAsUintN (whole 64) (big_minus 0), is_big (2 ^ 64 - 1)) ∷ (host_call_of_two BigIntAsUintN (whole 128) (big_minus 0), None) ∷ (host_call_of_two BigIntAsIntN (whole 64) (whole 1), None) ∷ (host_call_of_two BigIntAsIntN (minus 0) (big 1), None) ∷ []

-- the kinds of values; a name that nothing declares is of none, unless the standard has it
abbrev pub kinds : List Row
kinds = (unary_of TypeOf undefined_literal, is_text (codes "undefined")) ∷ (unary_of TypeOf null_literal, is_text (codes "object")) ∷ (unary_of TypeOf (boolean_literal true), is_text (codes "boolean")) ∷ (unary_of TypeOf (whole 1), is_text (codes "number")) ∷ (unary_of TypeOf (big 1), is_text (codes "bigint")) ∷ (unary_of TypeOf (word []), is_text (codes "string")) ∷ (unary_of TypeOf (list_of no_expressions), is_text (codes "object")) ∷ (unary_of TypeOf none, is_text (codes "undefined")) ∷ (unary_of TypeOf (name_use (codes "Int8Array")), None) ∷ (unary_of TypeOf (name_use (codes "BigUint64Array")), None) ∷ (unary_of TypeOf (name_use (codes "Int8Arrays")), is_text (codes "undefined")) ∷ (unary_of TypeOf (unary_of TypeOf none), is_text (codes "string")) ∷ []

abbrev two_items : Expression
two_items = list_of (expression (whole 5) (expression (word (codes "a")) no_expressions))

abbrev filled_with : Expression → Expression
filled_with e = method_call_of (new_array_of (whole 2)) (codes "fill") (expression e no_expressions)

-- an index outside an array reads undefined; a new array has no items until it is filled
abbrev pub arrays : List Row
arrays = (index_of two_items (whole 1), is_text (codes "a")) ∷ (index_of two_items (whole 2), Some undefined) ∷ (index_of two_items (minus 0), Some undefined) ∷ (index_of two_items (word (codes "0")), None) ∷ (property_of two_items (codes "length"), is_number 2) ∷ (property_of two_items (codes "x_"), None) ∷ (property_of two_items (codes "fill"), None) ∷ (property_of (new_array_of (whole 3)) (codes "length"), is_number 3) ∷ (property_of (new_array_of (word (codes "a"))) (codes "length"), is_number 1) ∷ (index_of (new_array_of (whole 3)) (whole 0), Some undefined) ∷ (new_array_of (minus 0), None) ∷ (index_of (filled_with (whole 7)) (whole 1), is_number 7) ∷ (property_of (filled_with (whole 7)) (codes "length"), is_number 2) ∷ (method_call_of two_items (codes "fill") no_expressions, None) ∷ (method_call_of two_items (codes "length") no_expressions, None) ∷ (binary_of (whole 0) In two_items, None) ∷ (binary_of two_items InstanceOf none, None) ∷ (binary_of two_items StrictEqual two_items, no) ∷ []

-- a property of undefined or null is wrong; of a value without properties it is undefined
abbrev pub properties : List Row
properties = (property_of undefined_literal (codes "x_"), None) ∷ (property_of null_literal (codes "x_"), None) ∷ (property_of (whole 1) (codes "x_"), Some undefined) ∷ (property_of (big 1) (codes "x_"), Some undefined) ∷ (property_of (boolean_literal true) (codes "x_"), Some undefined) ∷ (property_of (word (codes "a")) (codes "x_"), Some undefined) ∷ (property_of (word (codes "a")) (codes "length"), None) ∷ (index_of (word (codes "a")) (whole 0), None) ∷ (index_of (whole 1) (whole 0), Some undefined) ∷ (index_of undefined_literal (whole 0), None) ∷ (method_call_of (whole 1) (codes "x_") no_expressions, None) ∷ (binary_of (word (codes "x_")) In (whole 1), None) ∷ []
