-- What operators give on values. Sections are those of ECMA-262, 11th edition (2020).
use Rattle.std.specs.Prelude.{ℕ, Bool, true, false, List, [], ◌∷◌, ◌++◌, ◌^◌, ◌&&◌, ◌||◌, not, ℤ, pos, negsuc, ◌+ℤ◌, ◌-ℤ◌, ◌*ℤ◌, int_lt, int_le, nat_eq, nat_lt, codes, Option, Some, None, if◌then◌else◌}
use Rattle.std.specs.Cmp.Lexicographic.{slice_cmp}
use Rattle.std.specs.Ordering.{int_eq, nat_cmp, is_lt}
use Rattle.int_arithmetic.specs.BigInts as bigs
use Rattle.int_arithmetic.specs.Decimals.{decimal_text}
use Rattle.int_arithmetic.specs.Modulo.{modulo}
use Rattle.int_arithmetic.specs.Numbers.{is_exact, or_numbers, and_numbers, xor_numbers, left_shift, signed_right_shift, unsigned_right_shift, imul}
use Rattle.js_tree.specs.Names.{is_same_text}
use Rattle.js_tree.specs.declared.operators.BinaryOperator.{BinaryOperator}
use Rattle.js_tree.specs.declared.operators.BinaryOperator.TheVariants.{Add, Subtract, Multiply, Divide, Remainder, BitAnd, BitOr, BitXor, ShiftLeft, ShiftRight, ShiftRightUnsigned, StrictEqual, StrictNotEqual, Less, LessOrEqual, Greater, GreaterOrEqual}
use Rattle.js_mean.specs.States.{Value, undefined, null, boolean, number, big_int, text, object, function, class, method, ClassLink}

abbrev pub is_empty : List ℕ → Bool
is_empty [] = true
is_empty (u ∷ us) = false

-- 7.1.2
abbrev pub to_boolean : Value → Bool
to_boolean undefined = false
to_boolean null = false
to_boolean (boolean b) = b
to_boolean (number z) = not (int_eq z (pos 0))
to_boolean (big_int z) = not (int_eq z (pos 0))
to_boolean (text us) = not (is_empty us)
to_boolean (object a) = true
to_boolean (function f x) = true
to_boolean (class ls) = true
to_boolean (method ls x) = true

-- 7.1.4, where it is a whole Number
abbrev pub to_number : Value → Option ℤ
to_number null = Some (pos 0)
to_number (boolean true) = Some (pos 1)
to_number (boolean false) = Some (pos 0)
to_number (number z) = Some z
to_number _ = None

-- the Number that a bitwise operator takes: NaN, which undefined is as a Number, has the bits of 0 (7.1.6)
abbrev pub to_bits : Value → Option ℤ
to_bits undefined = Some (pos 0)
to_bits v = to_number v

abbrev pub is_same_boolean : Bool → Bool → Bool
is_same_boolean true b = b
is_same_boolean false b = not b

-- a class is evaluated once, so it is known by where it is declared
abbrev pub is_same_class : ClassLink → ClassLink → Bool
is_same_class k l = is_same_text k.file l.file && is_same_text k.name l.name

abbrev pub are_same_classes : List ClassLink → List ClassLink → Bool
are_same_classes [] [] = true
are_same_classes (k ∷ ks) (l ∷ ls) = is_same_class k l
are_same_classes _ _ = false

-- 7.2.16
abbrev pub is_strictly_equal : Value → Value → Bool
is_strictly_equal undefined undefined = true
is_strictly_equal null null = true
is_strictly_equal (boolean a) (boolean b) = is_same_boolean a b
is_strictly_equal (number a) (number b) = int_eq a b
is_strictly_equal (big_int a) (big_int b) = int_eq a b
is_strictly_equal (text us) (text vs) = is_same_text us vs
is_strictly_equal (object a) (object b) = nat_eq a b
is_strictly_equal (function f x) (function g y) = is_same_text f g && is_same_text x y
is_strictly_equal (class ks) (class ls) = are_same_classes ks ls
is_strictly_equal (method ks x) (method ls y) = are_same_classes ks ls && is_same_text x y
is_strictly_equal _ _ = false

-- a whole Number of at most 2 ^ 53 in size
abbrev pub exact : ℤ → Option Value
exact z = if is_exact z then Some (number z) else None

abbrev pub is_negative : ℤ → Bool
is_negative (pos n) = false
is_negative (negsuc n) = true

-- a product is negative zero where it is zero and one of its factors is negative
abbrev pub product : ℤ → ℤ → Option Value
product a b = if (int_eq (a *ℤ b) (pos 0) && (is_negative a || is_negative b)) then None else exact (a *ℤ b)

-- 12.7.3, 12.8: on Numbers. `/` and `%` are no whole Numbers in general: they have a meaning under `| 0` alone.
abbrev pub number_value : BinaryOperator → ℤ → ℤ → Option Value
number_value Add a b = exact (a +ℤ b)
number_value Subtract a b = exact (a -ℤ b)
number_value Multiply a b = product a b
number_value Less a b = Some (boolean (int_lt a b))
number_value LessOrEqual a b = Some (boolean (int_le a b))
number_value Greater a b = Some (boolean (int_lt b a))
number_value GreaterOrEqual a b = Some (boolean (int_le b a))
number_value _ a b = None

-- 12.9, 12.12: on the bits of Numbers
abbrev pub bits_value : BinaryOperator → ℤ → ℤ → Option Value
bits_value BitAnd a b = Some (number (and_numbers a b))
bits_value BitOr a b = Some (number (or_numbers a b))
bits_value BitXor a b = Some (number (xor_numbers a b))
bits_value ShiftLeft a b = Some (number (left_shift a b))
bits_value ShiftRight a b = Some (number (signed_right_shift a b))
bits_value ShiftRightUnsigned a b = Some (number (unsigned_right_shift a b))
bits_value _ a b = None

-- 12.10.3: the order of numbers
abbrev pub order_value : BinaryOperator → ℤ → ℤ → Option Value
order_value Less a b = Some (boolean (int_lt a b))
order_value LessOrEqual a b = Some (boolean (int_le a b))
order_value Greater a b = Some (boolean (int_lt b a))
order_value GreaterOrEqual a b = Some (boolean (int_le b a))
order_value _ a b = None

abbrev pub big : Option ℤ → Option Value
big None = None
big (Some z) = Some (big_int z)

-- 12.7 to 12.9, 12.12: on BigInts, for which there is no `>>>`
abbrev pub big_value : BinaryOperator → ℤ → ℤ → Option Value
big_value Add a b = big (bigs.sum a b)
big_value Subtract a b = big (bigs.difference a b)
big_value Multiply a b = big (bigs.product a b)
big_value Divide a b = big (bigs.quotient a b)
big_value Remainder a b = big (bigs.remainder a b)
big_value BitAnd a b = Some (big_int (bigs.and_of a b))
big_value BitOr a b = Some (big_int (bigs.or_of a b))
big_value BitXor a b = Some (big_int (bigs.xor_of a b))
big_value ShiftLeft a b = big (bigs.left_shift a b)
big_value ShiftRight a b = big (bigs.right_shift a b)
big_value op a b = order_value op a b

-- one text stands before another in the order of their units (7.2.14)
abbrev pub is_before : List ℕ → List ℕ → Bool
is_before us vs = is_lt (slice_cmp nat_cmp us vs)

-- 12.10.3: on texts, of which no other operator but `+` and those of equality takes two
abbrev pub text_value : BinaryOperator → List ℕ → List ℕ → Option Value
text_value Less us vs = Some (boolean (is_before us vs))
text_value LessOrEqual us vs = Some (boolean (not (is_before vs us)))
text_value Greater us vs = Some (boolean (is_before vs us))
text_value GreaterOrEqual us vs = Some (boolean (not (is_before us vs)))
text_value _ us vs = None

-- an operation on two operands that are Numbers
abbrev pub on_both : (ℤ → ℤ → Option Value) → Option ℤ → Option ℤ → Option Value
on_both f (Some a) (Some b) = f a b
on_both f _ _ = None

-- the text of a value (7.1.17, 6.1.6.1.20, 6.1.6.2.23); that of an object, an array or a function is none of the subset
abbrev pub text_of : Value → Option (List ℕ)
text_of undefined = Some (codes "undefined")
text_of null = Some (codes "null")
text_of (boolean true) = Some (codes "true")
text_of (boolean false) = Some (codes "false")
text_of (number z) = Some (decimal_text z)
text_of (big_int z) = Some (decimal_text z)
text_of (text us) = Some us
text_of _ = None

abbrev pub joined : Option (List ℕ) → Option (List ℕ) → Option Value
joined (Some us) (Some vs) = Some (text (us ++ vs))
joined _ _ = None

-- `+` (12.8.3.1): a text and any other value are joined as texts
abbrev pub plus : Value → Value → Option Value
plus (text us) w = joined (Some us) (text_of w)
plus v (text vs) = joined (text_of v) (Some vs)
plus (big_int a) (big_int b) = big_value Add a b
plus v w = on_both (number_value Add) (to_number v) (to_number w)

-- operators on Numbers and their bits
abbrev pub on_numbers : BinaryOperator → Value → Value → Option Value
on_numbers BitAnd v w = on_both (bits_value BitAnd) (to_bits v) (to_bits w)
on_numbers BitOr v w = on_both (bits_value BitOr) (to_bits v) (to_bits w)
on_numbers BitXor v w = on_both (bits_value BitXor) (to_bits v) (to_bits w)
on_numbers ShiftLeft v w = on_both (bits_value ShiftLeft) (to_bits v) (to_bits w)
on_numbers ShiftRight v w = on_both (bits_value ShiftRight) (to_bits v) (to_bits w)
on_numbers ShiftRightUnsigned v w = on_both (bits_value ShiftRightUnsigned) (to_bits v) (to_bits w)
on_numbers op v w = on_both (number_value op) (to_number v) (to_number w)

-- by the kinds of the two operands: a Number and a BigInt are compared as they are, and nothing else takes the two (12.15.5, 7.2.14)
abbrev pub by_kinds : BinaryOperator → Value → Value → Option Value
by_kinds op (text us) (text vs) = text_value op us vs
by_kinds op (big_int a) (big_int b) = big_value op a b
by_kinds op (big_int a) w = on_both (order_value op) (Some a) (to_number w)
by_kinds op v (big_int b) = on_both (order_value op) (to_number v) (Some b)
by_kinds op v w = on_numbers op v w

-- an operator on two values, or none where the standard answers by an error or by what is no value of the subset
abbrev pub binary_value : BinaryOperator → Value → Value → Option Value
binary_value StrictEqual v w = Some (boolean (is_strictly_equal v w))
binary_value StrictNotEqual v w = Some (boolean (not (is_strictly_equal v w)))
binary_value Add v w = plus v w
binary_value op v w = by_kinds op v w

-- `BigInt(..)` of a value (20.2.1.1): undefined, null and an object are errors, and of a text it isn't built
abbrev pub to_big : Value → Option Value
to_big (boolean true) = Some (big_int (pos 1))
to_big (boolean false) = Some (big_int (pos 0))
to_big (number z) = Some (big_int z)
to_big (big_int z) = Some (big_int z)
to_big _ = None

-- a value as a BigInt (7.1.13), which a Number is not
abbrev pub as_big : Value → Option ℤ
as_big (boolean true) = Some (pos 1)
as_big (boolean false) = Some (pos 0)
as_big (big_int z) = Some z
as_big _ = None

abbrev pub exact_of : Option ℤ → Option Value
exact_of None = None
exact_of (Some z) = exact z

-- `Number(..)` of a value (20.1.1.1), where it is a whole Number
abbrev pub number_of : Value → Option Value
number_of (big_int z) = exact z
number_of v = exact_of (to_number v)

-- `String.fromCharCode(..)` of a value: its 16 lowest bits are one unit (21.1.2.1, 7.1.9)
abbrev pub unit_of : Option ℤ → Option Value
unit_of None = None
unit_of (Some z) = Some (text (modulo z (2 ^ 16) ∷ []))

-- a number of bits (7.1.22)
abbrev pub index_of : Option ℤ → Option ℕ
index_of None = None
index_of (Some (pos n)) = if nat_lt n (2 ^ 53) then Some n else None
index_of (Some (negsuc n)) = None

abbrev pub cut : (ℕ → ℤ → Option Value) → Option ℕ → Option ℤ → Option Value
cut f (Some n) (Some z) = f n z
cut f _ _ = None

-- `BigInt.asIntN(..)` and `BigInt.asUintN(..)` (20.2.2.1, 20.2.2.2)
abbrev pub as_signed_value : Value → Value → Option Value
as_signed_value n v = cut (λ n z. Some (big_int (bigs.as_signed n z))) (index_of (to_bits n)) (as_big v)

abbrev pub as_unsigned_value : Value → Value → Option Value
as_unsigned_value n v = cut (λ n z. big (bigs.as_unsigned n z)) (index_of (to_bits n)) (as_big v)

-- `Math.imul` (20.3.2.19)
abbrev pub imul_value : Value → Value → Option Value
imul_value v w = on_both (λ a b. Some (number (imul a b))) (to_bits v) (to_bits w)
