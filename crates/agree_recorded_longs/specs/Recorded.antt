-- Classes that the reference recorded, with operators on longs, and what each shows. In their files too each position is zero.
use Rattle.std.specs.Prelude.{◌∷◌, [], ◌++◌, true, false, pos, negsuc, codes, Some}
use Rattle.agree_recorded.specs.Bounds.{Answers, all_from_one, goes_on_with, ends_with, parameter, method_of}
use Rattle.ir_mean.specs.Rows.{object_with, static_method, nowhere, logs, object_name}
use Rattle.sj_names.specs.declared.method_names.Namespace.TheVariants.{PublicStatic, PrivateStatic}
use Rattle.sj_trees.specs.Term.{no_terms, no_cases, var_def, skip, block_of, labeled, assign, return_to, if_then, while_loop, do_while, match_on, apply_static, unary_op, binary_op, undefined_literal, null_literal, boolean_literal, char_literal, byte_literal, short_literal, int_literal, long_literal, string_literal, var_ref, log_line}
use Rattle.sj_trees.specs.View.{terms_of, cases_of}
use Rattle.sj_trees.specs.declared.classes.ClassDef.{ClassDef}
use Rattle.sj_trees.specs.declared.classes.MethodDef.{MethodDef}
use Rattle.sj_trees.specs.declared.operators.BinaryOp.TheVariants.{StringConcatenate, BooleanEqual, BooleanOr, BooleanAnd, IntAdd, IntSubtract, IntMultiply, IntDivide, IntRemainder, IntOr, IntAnd, IntXor, IntShiftLeft, IntShiftRightLogical, IntShiftRightArithmetic, IntLess, IntGreater, LongAdd, LongSubtract, LongMultiply, LongDivide, LongRemainder, LongOr, LongXor, LongShiftLeft, LongShiftRightLogical, LongShiftRightArithmetic, LongEqual, LongNotEqual, LongGreater}
use Rattle.sj_trees.specs.declared.operators.UnaryOp.TheVariants.{BooleanNot, CharToInt, IntToLong, IntToChar, IntToByte, IntToShort, LongToInt}
use Rattle.sj_trees.specs.declared.types.IrType.TheVariants as Types
use Rattle.sj_names.specs.declared.references.TypeRef.TheVariants as References

-- the least int by -1, and a remainder
abbrev pub least_int_divided_main : MethodDef
least_int_divided_main = static_method (codes "main") (block_of nowhere (terms_of (log_line nowhere (binary_op nowhere StringConcatenate (string_literal nowhere []) (binary_op nowhere IntDivide (int_literal nowhere (negsuc 2147483647)) (int_literal nowhere (negsuc 0)))) ∷ log_line nowhere (binary_op nowhere StringConcatenate (string_literal nowhere []) (binary_op nowhere IntRemainder (int_literal nowhere (negsuc 3)) (int_literal nowhere (pos 2)))) ∷ [])))

abbrev pub least_int_divided_class : ClassDef
least_int_divided_class = object_with (least_int_divided_main ∷ [])

abbrev pub least_int_divided_shown : Answers
least_int_divided_shown = all_from_one (codes "-2147483648" ∷ codes "0" ∷ [])

-- the least long times -1, shifted by 64 and by 65 without its sign, and divided by -1
abbrev pub least_long_main : MethodDef
least_long_main = static_method (codes "main") (block_of nowhere (terms_of (log_line nowhere (binary_op nowhere StringConcatenate (string_literal nowhere []) (binary_op nowhere LongMultiply (long_literal nowhere (negsuc 9223372036854775807)) (long_literal nowhere (negsuc 0)))) ∷ log_line nowhere (binary_op nowhere StringConcatenate (string_literal nowhere []) (binary_op nowhere LongShiftRightLogical (long_literal nowhere (negsuc 9223372036854775807)) (int_literal nowhere (pos 64)))) ∷ log_line nowhere (binary_op nowhere StringConcatenate (string_literal nowhere []) (binary_op nowhere LongShiftRightLogical (long_literal nowhere (negsuc 9223372036854775807)) (int_literal nowhere (pos 65)))) ∷ log_line nowhere (binary_op nowhere StringConcatenate (string_literal nowhere []) (binary_op nowhere LongDivide (long_literal nowhere (negsuc 9223372036854775807)) (long_literal nowhere (negsuc 0)))) ∷ log_line nowhere (binary_op nowhere StringConcatenate (string_literal nowhere []) (binary_op nowhere LongRemainder (long_literal nowhere (negsuc 9223372036854775807)) (long_literal nowhere (negsuc 0)))) ∷ [])))

abbrev pub least_long_class : ClassDef
least_long_class = object_with (least_long_main ∷ [])

abbrev pub least_long_shown : Answers
least_long_shown = all_from_one (codes "-9223372036854775808" ∷ codes "-9223372036854775808" ∷ codes "4611686018427387904" ∷ codes "-9223372036854775808" ∷ codes "0" ∷ [])

-- a long shifted by a count that is masked, and a loop that counts to three
abbrev pub three_counted_main : MethodDef
three_counted_main = static_method (codes "main") (block_of nowhere (terms_of (log_line nowhere (binary_op nowhere StringConcatenate (binary_op nowhere StringConcatenate (undefined_literal nowhere) (binary_op nowhere LongShiftRightLogical (long_literal nowhere (pos 64)) (int_literal nowhere (pos 128)))) (string_literal nowhere (233 ∷ 55357 ∷ 56832 ∷ []))) ∷ var_def nowhere (codes "break") Types.Undefined false (undefined_literal nowhere) ∷ block_of nowhere (terms_of (var_def nowhere (codes "x$1") Types.Int true (int_literal nowhere (pos 0)) ∷ labeled nowhere (codes "l1") Types.NoType (while_loop nowhere (boolean_literal nowhere true) (block_of nowhere (terms_of (assign nowhere (var_ref nowhere (codes "x$1") Types.Int) (binary_op nowhere IntAdd (var_ref nowhere (codes "x$1") Types.Int) (int_literal nowhere (pos 1))) ∷ log_line nowhere (binary_op nowhere StringConcatenate (string_literal nowhere []) (var_ref nowhere (codes "x$1") Types.Int)) ∷ if_then nowhere (binary_op nowhere IntGreater (var_ref nowhere (codes "x$1") Types.Int) (int_literal nowhere (pos 2))) (return_to nowhere (skip nowhere) (codes "l1")) (skip nowhere) Types.NoType ∷ [])))) ∷ [])) ∷ [])))

abbrev pub three_counted_second : MethodDef
three_counted_second = method_of PublicStatic (codes "g1") (References.Int ∷ References.Class object_name ∷ []) References.Byte (parameter (codes "break") true Types.Int ∷ parameter (codes "this") false Types.Any ∷ []) Types.Byte (if_then nowhere (block_of nowhere (terms_of (logs (codes "e1") ∷ binary_op nowhere LongNotEqual (match_on nowhere (var_ref nowhere (codes "break") Types.Int) (cases_of ((pos 5 ∷ pos 2 ∷ [], long_literal nowhere (negsuc 9223372036854775807)) ∷ [])) (long_literal nowhere (negsuc 0)) Types.Long) (long_literal nowhere (pos 1)) ∷ []))) (unary_op nowhere IntToByte (binary_op nowhere IntXor (apply_static nowhere object_name PrivateStatic (record { simple = (codes "g0"); params = References.Byte ∷ []; result = Some References.Int }) (terms_of (byte_literal nowhere (pos 0) ∷ [])) Types.Int) (int_literal nowhere (pos 0)))) (block_of nowhere (terms_of (labeled nowhere (codes "l_") Types.NoType (block_of nowhere (terms_of (var_def nowhere (codes "_") Types.Short false (short_literal nowhere (negsuc 32767)) ∷ logs (codes "a") ∷ []))) ∷ byte_literal nowhere (pos 127) ∷ []))) Types.Byte)

abbrev pub three_counted_third : MethodDef
three_counted_third = method_of PrivateStatic (codes "g0") (References.Byte ∷ []) References.Int (parameter (codes "x1") false Types.Byte ∷ []) Types.Int (block_of nowhere (terms_of (var_def nowhere (195 ∷ 169 ∷ []) Types.Char false (unary_op nowhere IntToChar (binary_op nowhere IntSubtract (int_literal nowhere (negsuc 32768)) (int_literal nowhere (pos 127)))) ∷ int_literal nowhere (pos 32768) ∷ [])))

abbrev pub three_counted_class : ClassDef
three_counted_class = object_with (three_counted_main ∷ three_counted_second ∷ three_counted_third ∷ [])

abbrev pub three_counted_shown : Answers
three_counted_shown = goes_on_with [] ∷ goes_on_with ((codes "undefined64" ++ 233 ∷ 55357 ∷ 56832 ∷ []) ∷ codes "1" ∷ []) ∷ goes_on_with ((codes "undefined64" ++ 233 ∷ 55357 ∷ 56832 ∷ []) ∷ codes "1" ∷ codes "2" ∷ []) ∷ ends_with ((codes "undefined64" ++ 233 ∷ 55357 ∷ 56832 ∷ []) ∷ codes "1" ∷ codes "2" ∷ codes "3" ∷ []) ∷ ends_with ((codes "undefined64" ++ 233 ∷ 55357 ∷ 56832 ∷ []) ∷ codes "1" ∷ codes "2" ∷ codes "3" ∷ []) ∷ ends_with ((codes "undefined64" ++ 233 ∷ 55357 ∷ 56832 ∷ []) ∷ codes "1" ∷ codes "2" ∷ codes "3" ∷ []) ∷ []

-- a call with a char and a long, joined to half of a pair
abbrev pub char_argument_first : MethodDef
char_argument_first = method_of PublicStatic (codes "two0") (References.Char ∷ References.Long ∷ []) References.Short (parameter (codes "$this") false Types.Char ∷ parameter (codes "y") true Types.Long ∷ []) Types.Short (labeled nowhere (195 ∷ 169 ∷ 95 ∷ []) Types.Short (unary_op nowhere IntToShort (block_of nowhere (terms_of (var_def nowhere (codes "x_") Types.Int true (binary_op nowhere IntAnd (int_literal nowhere (negsuc 128)) (int_literal nowhere (negsuc 128))) ∷ if_then nowhere (block_of nowhere (terms_of (logs (codes "t") ∷ logs (codes "t8") ∷ boolean_literal nowhere true ∷ []))) (int_literal nowhere (pos 33)) (var_ref nowhere (codes "x_") Types.Int) Types.Int ∷ [])))))

abbrev pub char_argument_second : MethodDef
char_argument_second = method_of PublicStatic (codes "f1") (References.Class object_name ∷ References.Int ∷ []) References.Byte (parameter (codes "console") false Types.Any ∷ parameter (codes "$1") false Types.Int ∷ []) Types.Byte (unary_op nowhere IntToByte (if_then nowhere (binary_op nowhere BooleanEqual (if_then nowhere (boolean_literal nowhere false) (boolean_literal nowhere false) (boolean_literal nowhere false) Types.Boolean) (boolean_literal nowhere false)) (int_literal nowhere (pos 65535)) (int_literal nowhere (pos 2)) Types.Int))

abbrev pub char_argument_main : MethodDef
char_argument_main = static_method (codes "main") (block_of nowhere (terms_of (log_line nowhere (binary_op nowhere StringConcatenate (apply_static nowhere object_name PublicStatic (record { simple = (codes "two0"); params = References.Char ∷ References.Long ∷ []; result = Some References.Short }) (terms_of (char_literal nowhere 65535 ∷ binary_op nowhere LongOr (long_literal nowhere (pos 1234567890123456789)) (long_literal nowhere (pos 3)) ∷ [])) Types.Short) (char_literal nowhere 55296)) ∷ var_def nowhere (codes "break") Types.Null true (if_then nowhere (boolean_literal nowhere false) (null_literal nowhere) (null_literal nowhere) Types.Null) ∷ block_of nowhere (terms_of (assign nowhere (var_ref nowhere (codes "break") Types.Null) (null_literal nowhere) ∷ var_def nowhere (codes "x'") Types.Int true (binary_op nowhere IntAnd (binary_op nowhere IntAnd (int_literal nowhere (pos 128)) (int_literal nowhere (pos 32))) (labeled nowhere (codes "in") Types.Int (block_of nowhere (terms_of (if_then nowhere (boolean_literal nowhere true) (return_to nowhere (int_literal nowhere (pos 0)) (codes "in")) (skip nowhere) Types.NoType ∷ int_literal nowhere (pos 256) ∷ []))))) ∷ [])) ∷ logs (codes "t") ∷ [])))

abbrev pub char_argument_class : ClassDef
char_argument_class = object_with (char_argument_first ∷ char_argument_second ∷ char_argument_main ∷ [])

abbrev pub char_argument_shown : Answers
char_argument_shown = goes_on_with [] ∷ goes_on_with [] ∷ ends_with (codes "t" ∷ codes "t8" ∷ (51 ∷ 51 ∷ 55296 ∷ []) ∷ codes "t" ∷ []) ∷ ends_with (codes "t" ∷ codes "t8" ∷ (51 ∷ 51 ∷ 55296 ∷ []) ∷ codes "t" ∷ []) ∷ ends_with (codes "t" ∷ codes "t8" ∷ (51 ∷ 51 ∷ 55296 ∷ []) ∷ codes "t" ∷ []) ∷ ends_with (codes "t" ∷ codes "t8" ∷ (51 ∷ 51 ∷ 55296 ∷ []) ∷ codes "t" ∷ []) ∷ []

-- a long compared to the long of a match
abbrev pub compared_longs_main : MethodDef
compared_longs_main = static_method (codes "main") (block_of nowhere (terms_of (log_line nowhere (binary_op nowhere StringConcatenate (binary_op nowhere LongEqual (block_of nowhere (terms_of (logs (codes "e5") ∷ long_literal nowhere (negsuc 9223372036854775806) ∷ []))) (match_on nowhere (binary_op nowhere IntAnd (int_literal nowhere (pos 32767)) (int_literal nowhere (pos 3))) (cases_of ((negsuc 0 ∷ [], long_literal nowhere (pos 64)) ∷ (pos 2 ∷ [], long_literal nowhere (pos 9223372036854775807)) ∷ (negsuc 1 ∷ [], long_literal nowhere (negsuc 9223372036854775806)) ∷ [])) (long_literal nowhere (pos 9223372036854775807)) Types.Long)) (int_literal nowhere (pos 32))) ∷ skip nowhere ∷ logs (codes "t") ∷ [])))

abbrev pub compared_longs_second : MethodDef
compared_longs_second = method_of PublicStatic (195 ∷ 169 ∷ 50 ∷ []) (References.Class object_name ∷ References.Byte ∷ []) References.Char (parameter (codes "x") false Types.Any ∷ parameter (codes "break") false Types.Byte ∷ []) Types.Char (labeled nowhere (195 ∷ 169 ∷ 95 ∷ []) Types.Char (return_to nowhere (unary_op nowhere IntToChar (binary_op nowhere IntShiftRightArithmetic (block_of nowhere (terms_of (logs (codes "e7") ∷ int_literal nowhere (pos 32768) ∷ []))) (binary_op nowhere IntAdd (int_literal nowhere (pos 32767)) (int_literal nowhere (negsuc 0))))) (195 ∷ 169 ∷ 95 ∷ [])))

abbrev pub compared_longs_third : MethodDef
compared_longs_third = method_of PublicStatic (codes "two1") [] References.Byte [] Types.Byte (unary_op nowhere IntToByte (binary_op nowhere IntShiftRightLogical (unary_op nowhere LongToInt (long_literal nowhere (pos 0))) (int_literal nowhere (negsuc 32768))))

abbrev pub compared_longs_fourth : MethodDef
compared_longs_fourth = method_of PublicStatic (codes "two0") (References.Long ∷ References.Long ∷ References.Int ∷ []) (References.Class object_name) (parameter (codes "x") false Types.Long ∷ parameter (codes "$this") true Types.Long ∷ parameter (codes "x_") false Types.Int ∷ []) Types.Any (labeled nowhere (195 ∷ 169 ∷ []) Types.Any (binary_op nowhere StringConcatenate (boolean_literal nowhere true) (unary_op nowhere IntToChar (var_ref nowhere (codes "x_") Types.Int))))

abbrev pub compared_longs_class : ClassDef
compared_longs_class = object_with (compared_longs_main ∷ compared_longs_second ∷ compared_longs_third ∷ compared_longs_fourth ∷ [])

abbrev pub compared_longs_shown : Answers
compared_longs_shown = all_from_one (codes "e5" ∷ codes "false32" ∷ codes "t" ∷ [])

-- a choice between a product of longs and a loop whose condition logs
abbrev pub turns_in_a_choice_first : MethodDef
turns_in_a_choice_first = method_of PublicStatic (codes "g0") (References.Long ∷ References.Char ∷ References.Short ∷ []) References.Boolean (parameter (codes "1") false Types.Long ∷ parameter (codes "v_x") false Types.Char ∷ parameter (codes "x") true Types.Short ∷ []) Types.Boolean (labeled nowhere (codes "break1") Types.Boolean (block_of nowhere (terms_of (logs (codes "e6") ∷ boolean_literal nowhere true ∷ []))))

abbrev pub turns_in_a_choice_main : MethodDef
turns_in_a_choice_main = static_method (codes "main") (if_then nowhere (boolean_literal nowhere false) (block_of nowhere (terms_of (var_def nowhere (codes "x$1") Types.Long true (binary_op nowhere LongMultiply (long_literal nowhere (pos 4611686018427387904)) (long_literal nowhere (pos 4611686018427387904))) ∷ []))) (block_of nowhere (terms_of (var_def nowhere (codes "console") Types.Int true (int_literal nowhere (pos 0)) ∷ while_loop nowhere (binary_op nowhere BooleanAnd (boolean_literal nowhere true) (block_of nowhere (terms_of (logs (codes "w") ∷ binary_op nowhere IntLess (var_ref nowhere (codes "console") Types.Int) (int_literal nowhere (pos 2)) ∷ [])))) (block_of nowhere (terms_of (assign nowhere (var_ref nowhere (codes "console") Types.Int) (binary_op nowhere IntAdd (var_ref nowhere (codes "console") Types.Int) (int_literal nowhere (pos 1))) ∷ block_of nowhere (terms_of (var_def nowhere (codes "k") Types.Int false (var_ref nowhere (codes "console") Types.Int) ∷ [])) ∷ []))) ∷ []))) Types.NoType)

abbrev pub turns_in_a_choice_class : ClassDef
turns_in_a_choice_class = object_with (turns_in_a_choice_first ∷ turns_in_a_choice_main ∷ [])

abbrev pub turns_in_a_choice_shown : Answers
turns_in_a_choice_shown = goes_on_with [] ∷ goes_on_with (codes "w" ∷ []) ∷ goes_on_with (codes "w" ∷ codes "w" ∷ []) ∷ ends_with (codes "w" ∷ codes "w" ∷ codes "w" ∷ []) ∷ ends_with (codes "w" ∷ codes "w" ∷ codes "w" ∷ []) ∷ ends_with (codes "w" ∷ codes "w" ∷ codes "w" ∷ []) ∷ []

-- a product of ints as a long, compared to a long
abbrev pub int_as_long_main : MethodDef
int_as_long_main = static_method (codes "main") (block_of nowhere (terms_of (if_then nowhere (binary_op nowhere LongEqual (unary_op nowhere IntToLong (binary_op nowhere IntMultiply (int_literal nowhere (pos 31)) (int_literal nowhere (pos 127)))) (if_then nowhere (binary_op nowhere BooleanAnd (boolean_literal nowhere false) (boolean_literal nowhere true)) (if_then nowhere (boolean_literal nowhere false) (long_literal nowhere (pos 0)) (long_literal nowhere (negsuc 2147483647)) Types.Long) (long_literal nowhere (pos 9223372036854775807)) Types.Long)) (block_of nowhere (terms_of (logs (codes "t") ∷ skip nowhere ∷ []))) (logs (codes "t2")) Types.NoType ∷ logs (codes "t") ∷ [])))

abbrev pub int_as_long_second : MethodDef
int_as_long_second = method_of PublicStatic (codes "g1") (References.Short ∷ References.Int ∷ []) References.Char (parameter (codes "y") false Types.Short ∷ parameter (codes "l_x") true Types.Int ∷ []) Types.Char (apply_static nowhere object_name PrivateStatic (record { simple = (codes "f0"); params = []; result = Some References.Char }) no_terms Types.Char)

abbrev pub int_as_long_third : MethodDef
int_as_long_third = method_of PrivateStatic (codes "f0") [] References.Char [] Types.Char (labeled nowhere (codes "k_") Types.Char (unary_op nowhere IntToChar (binary_op nowhere IntShiftRightArithmetic (binary_op nowhere IntShiftLeft (binary_op nowhere IntOr (int_literal nowhere (pos 3)) (int_literal nowhere (pos 1))) (int_literal nowhere (pos 2))) (int_literal nowhere (pos 128)))))

abbrev pub int_as_long_class : ClassDef
int_as_long_class = object_with (int_as_long_main ∷ int_as_long_second ∷ int_as_long_third ∷ [])

abbrev pub int_as_long_shown : Answers
int_as_long_shown = all_from_one (codes "t2" ∷ codes "t" ∷ [])

-- a long as an int, and that as a byte
abbrev pub long_as_byte_main : MethodDef
long_as_byte_main = static_method (codes "main") (block_of nowhere (terms_of (var_def nowhere (codes "k") Types.Byte false (unary_op nowhere IntToByte (unary_op nowhere LongToInt (long_literal nowhere (pos 63)))) ∷ skip nowhere ∷ var_def nowhere (codes "x") Types.Long true (long_literal nowhere (pos 1234567890123456789)) ∷ logs (codes "t6") ∷ [])))

abbrev pub long_as_byte_second : MethodDef
long_as_byte_second = method_of PublicStatic (195 ∷ 169 ∷ 48 ∷ []) (References.Class object_name ∷ []) References.Short (parameter (codes "a0") false Types.Any ∷ []) Types.Short (short_literal nowhere (negsuc 32767))

abbrev pub long_as_byte_class : ClassDef
long_as_byte_class = object_with (long_as_byte_main ∷ long_as_byte_second ∷ [])

abbrev pub long_as_byte_shown : Answers
long_as_byte_shown = all_from_one (codes "t6" ∷ [])

-- the condition of a loop is a choice by a match, and an argument logs
abbrev pub match_in_a_condition_first : MethodDef
match_in_a_condition_first = method_of PublicStatic (codes "h_0") (References.Short ∷ []) References.Short (parameter (codes "_") false Types.Short ∷ []) Types.Short (labeled nowhere (codes "x_") Types.Short (block_of nowhere (terms_of (var_def nowhere (codes "k") Types.Int true (binary_op nowhere IntShiftRightArithmetic (if_then nowhere (boolean_literal nowhere true) (int_literal nowhere (pos 32)) (int_literal nowhere (pos 97)) Types.Int) (if_then nowhere (boolean_literal nowhere false) (int_literal nowhere (pos 31)) (int_literal nowhere (negsuc 2147483646)) Types.Int)) ∷ if_then nowhere (boolean_literal nowhere true) (var_ref nowhere (codes "_") Types.Short) (short_literal nowhere (pos 1)) Types.Short ∷ []))))

abbrev pub match_in_a_condition_main : MethodDef
match_in_a_condition_main = static_method (codes "main") (block_of nowhere (terms_of (block_of nowhere (terms_of (block_of nowhere (terms_of (var_def nowhere (codes "$1") Types.Int true (int_literal nowhere (pos 0)) ∷ do_while nowhere (block_of nowhere (terms_of (assign nowhere (var_ref nowhere (codes "$1") Types.Int) (binary_op nowhere IntAdd (var_ref nowhere (codes "$1") Types.Int) (int_literal nowhere (pos 1))) ∷ block_of nowhere (terms_of (var_def nowhere (codes "this") Types.Long false (binary_op nowhere LongAdd (long_literal nowhere (pos 64)) (long_literal nowhere (pos 9007199254740993))) ∷ [])) ∷ []))) (if_then nowhere (match_on nowhere (binary_op nowhere IntAnd (int_literal nowhere (negsuc 0)) (int_literal nowhere (pos 3))) no_cases (boolean_literal nowhere false) Types.Boolean) (binary_op nowhere IntLess (var_ref nowhere (codes "$1") Types.Int) (int_literal nowhere (pos 3))) (binary_op nowhere IntGreater (int_literal nowhere (pos 2)) (var_ref nowhere (codes "$1") Types.Int)) Types.Boolean) ∷ [])) ∷ log_line nowhere (binary_op nowhere StringConcatenate (null_literal nowhere) (short_literal nowhere (pos 32767))) ∷ [])) ∷ var_def nowhere (codes "a0") Types.Short false (apply_static nowhere object_name PublicStatic (record { simple = (codes "h_0"); params = References.Short ∷ []; result = Some References.Short }) (terms_of (block_of nowhere (terms_of (logs (codes "e1") ∷ block_of nowhere (terms_of (logs (codes "e5") ∷ short_literal nowhere (pos 0) ∷ [])) ∷ [])) ∷ [])) Types.Short) ∷ [])))

abbrev pub match_in_a_condition_class : ClassDef
match_in_a_condition_class = object_with (match_in_a_condition_first ∷ match_in_a_condition_main ∷ [])

abbrev pub match_in_a_condition_shown : Answers
match_in_a_condition_shown = goes_on_with [] ∷ goes_on_with [] ∷ ends_with (codes "null32767" ∷ codes "e1" ∷ codes "e5" ∷ []) ∷ ends_with (codes "null32767" ∷ codes "e1" ∷ codes "e5" ∷ []) ∷ ends_with (codes "null32767" ∷ codes "e1" ∷ codes "e5" ∷ []) ∷ ends_with (codes "null32767" ∷ codes "e1" ∷ codes "e5" ∷ []) ∷ []

-- a comparison of longs beside a boolean that logs
abbrev pub greater_long_first : MethodDef
greater_long_first = method_of PublicStatic (195 ∷ 169 ∷ 48 ∷ []) [] References.Long [] Types.Long (labeled nowhere (195 ∷ 169 ∷ 95 ∷ []) Types.Long (unary_op nowhere IntToLong (binary_op nowhere IntMultiply (labeled nowhere (codes "in_") Types.Int (block_of nowhere (terms_of (char_literal nowhere 55296 ∷ int_literal nowhere (pos 1) ∷ [])))) (int_literal nowhere (pos 256)))))

abbrev pub greater_long_second : MethodDef
greater_long_second = method_of PrivateStatic (codes "h_1") [] References.Char [] Types.Char (block_of nowhere (terms_of (logs (codes "e1") ∷ unary_op nowhere IntToChar (block_of nowhere (terms_of (logs (codes "e0") ∷ block_of nowhere (terms_of (var_def nowhere (codes "console") Types.Int true (int_literal nowhere (pos 1)) ∷ int_literal nowhere (negsuc 2147483646) ∷ [])) ∷ []))) ∷ [])))

abbrev pub greater_long_main : MethodDef
greater_long_main = static_method (codes "main") (block_of nowhere (terms_of (if_then nowhere (binary_op nowhere BooleanAnd (block_of nowhere (terms_of (logs (codes "e0") ∷ unary_op nowhere BooleanNot (boolean_literal nowhere true) ∷ []))) (binary_op nowhere LongGreater (long_literal nowhere (pos 64)) (if_then nowhere (boolean_literal nowhere true) (long_literal nowhere (negsuc 9223372036854775807)) (long_literal nowhere (negsuc 9223372036854775806)) Types.Long))) (block_of nowhere (terms_of (logs (codes "t1") ∷ var_def nowhere (195 ∷ 169 ∷ []) Types.Char true (char_literal nowhere 0) ∷ []))) (skip nowhere) Types.NoType ∷ var_def nowhere (codes "$1") Types.Undefined true (undefined_literal nowhere) ∷ var_def nowhere (codes "a0") Types.String false (string_literal nowhere (34 ∷ 92 ∷ [])) ∷ skip nowhere ∷ [])))

abbrev pub greater_long_class : ClassDef
greater_long_class = object_with (greater_long_first ∷ greater_long_second ∷ greater_long_main ∷ [])

abbrev pub greater_long_shown : Answers
greater_long_shown = all_from_one (codes "e0" ∷ [])

-- differences, products, remainders and shifts of longs in a method that nothing calls
abbrev pub longs_unread_main : MethodDef
longs_unread_main = static_method (codes "main") (block_of nowhere (terms_of (var_def nowhere (codes "$1") Types.String true (binary_op nowhere StringConcatenate (undefined_literal nowhere) (unary_op nowhere IntToShort (unary_op nowhere CharToInt (char_literal nowhere 55296)))) ∷ [])))

abbrev pub longs_unread_second : MethodDef
longs_unread_second = method_of PublicStatic (195 ∷ 169 ∷ 50 ∷ []) (References.Int ∷ []) References.Long (parameter (codes "x_") false Types.Int ∷ []) Types.Long (labeled nowhere (codes "in") Types.Long (binary_op nowhere LongMultiply (binary_op nowhere LongSubtract (long_literal nowhere (pos 4611686018427387904)) (binary_op nowhere LongXor (binary_op nowhere LongOr (long_literal nowhere (pos 2)) (long_literal nowhere (pos 2147483648))) (binary_op nowhere LongAdd (long_literal nowhere (pos 3)) (long_literal nowhere (pos 0))))) (binary_op nowhere LongOr (binary_op nowhere LongRemainder (binary_op nowhere LongRemainder (long_literal nowhere (pos 4294967296)) (long_literal nowhere (pos 63))) (long_literal nowhere (pos 63))) (binary_op nowhere LongShiftRightArithmetic (binary_op nowhere LongShiftRightArithmetic (long_literal nowhere (negsuc 2147483647)) (var_ref nowhere (codes "x_") Types.Int)) (binary_op nowhere IntShiftRightLogical (var_ref nowhere (codes "x_") Types.Int) (int_literal nowhere (pos 255)))))))

abbrev pub longs_unread_third : MethodDef
longs_unread_third = method_of PublicStatic (codes "g1") [] References.Char [] Types.Char (labeled nowhere (codes "k1") Types.Char (unary_op nowhere IntToChar (binary_op nowhere IntShiftRightArithmetic (match_on nowhere (binary_op nowhere IntAnd (binary_op nowhere IntMultiply (int_literal nowhere (pos 3)) (int_literal nowhere (negsuc 0))) (int_literal nowhere (pos 3))) no_cases (binary_op nowhere IntMultiply (int_literal nowhere (negsuc 2147483646)) (int_literal nowhere (negsuc 32768))) Types.Int) (binary_op nowhere IntXor (binary_op nowhere IntShiftLeft (int_literal nowhere (pos 65535)) (int_literal nowhere (pos 32767))) (int_literal nowhere (negsuc 0))))))

abbrev pub longs_unread_fourth : MethodDef
longs_unread_fourth = method_of PublicStatic (codes "two0") (References.Byte ∷ []) References.Byte (parameter (codes "x_") false Types.Byte ∷ []) Types.Byte (if_then nowhere (boolean_literal nowhere true) (unary_op nowhere IntToByte (binary_op nowhere IntAdd (binary_op nowhere IntMultiply (int_literal nowhere (pos 32)) (int_literal nowhere (negsuc 128))) (int_literal nowhere (negsuc 0)))) (byte_literal nowhere (pos 1)) Types.Byte)

abbrev pub longs_unread_class : ClassDef
longs_unread_class = object_with (longs_unread_main ∷ longs_unread_second ∷ longs_unread_third ∷ longs_unread_fourth ∷ [])

abbrev pub longs_unread_shown : Answers
longs_unread_shown = all_from_one []

-- a text that isn't joined, and a shift of a long in a method that nothing calls
abbrev pub long_moved_left_main : MethodDef
long_moved_left_main = static_method (codes "main") (block_of nowhere (terms_of (var_def nowhere (codes "$this") Types.Any true (binary_op nowhere BooleanOr (block_of nowhere (terms_of (var_def nowhere (codes "y") Types.Boolean false (boolean_literal nowhere false) ∷ var_ref nowhere (codes "y") Types.Boolean ∷ []))) (labeled nowhere (codes "in_") Types.Boolean (block_of nowhere (terms_of (logs (codes "t") ∷ boolean_literal nowhere false ∷ []))))) ∷ if_then nowhere (boolean_literal nowhere false) (block_of nowhere (terms_of (var_def nowhere (codes "console") Types.String true (binary_op nowhere StringConcatenate (boolean_literal nowhere true) (if_then nowhere (boolean_literal nowhere false) (char_literal nowhere 55296) (char_literal nowhere 34) Types.Char)) ∷ log_line nowhere (binary_op nowhere StringConcatenate (block_of nowhere (terms_of (logs (codes "e2") ∷ undefined_literal nowhere ∷ []))) (int_literal nowhere (pos 255))) ∷ []))) (skip nowhere) Types.NoType ∷ var_def nowhere (codes "$1") Types.Long false (binary_op nowhere LongOr (long_literal nowhere (pos 4611686018427387904)) (long_literal nowhere (pos 63))) ∷ logs (codes "t") ∷ [])))

abbrev pub long_moved_left_second : MethodDef
long_moved_left_second = method_of PublicStatic (codes "f2") [] References.Int [] Types.Int (labeled nowhere (195 ∷ 169 ∷ 49 ∷ []) Types.Int (int_literal nowhere (negsuc 2147483646)))

abbrev pub long_moved_left_third : MethodDef
long_moved_left_third = method_of PublicStatic (195 ∷ 169 ∷ 49 ∷ []) (References.Int ∷ []) References.Long (parameter (codes "v_x") false Types.Int ∷ []) Types.Long (labeled nowhere (codes "break1") Types.Long (binary_op nowhere LongMultiply (binary_op nowhere LongShiftLeft (long_literal nowhere (pos 4611686018427387904)) (binary_op nowhere IntMultiply (binary_op nowhere IntAnd (int_literal nowhere (pos 7)) (var_ref nowhere (codes "v_x") Types.Int)) (binary_op nowhere IntXor (var_ref nowhere (codes "v_x") Types.Int) (var_ref nowhere (codes "v_x") Types.Int)))) (match_on nowhere (binary_op nowhere IntAnd (int_literal nowhere (pos 32768)) (int_literal nowhere (pos 3))) (cases_of ((negsuc 1 ∷ [], long_literal nowhere (pos 4611686018427387904)) ∷ (negsuc 0 ∷ pos 4 ∷ [], long_literal nowhere (pos 9223372036854775807)) ∷ (pos 1 ∷ [], long_literal nowhere (negsuc 9223372036854775807)) ∷ [])) (long_literal nowhere (negsuc 2147483647)) Types.Long)))

abbrev pub long_moved_left_fourth : MethodDef
long_moved_left_fourth = method_of PublicStatic (codes "h_0") [] (References.Class object_name) [] Types.Any (labeled nowhere (codes "l") Types.Any (block_of nowhere (terms_of (if_then nowhere (block_of nowhere (terms_of (logs (0 ∷ 55296 ∷ 8232 ∷ 34 ∷ []) ∷ if_then nowhere (boolean_literal nowhere true) (boolean_literal nowhere false) (boolean_literal nowhere false) Types.Boolean ∷ []))) (return_to nowhere (null_literal nowhere) (codes "l")) (skip nowhere) Types.NoType ∷ logs (codes "t") ∷ null_literal nowhere ∷ []))))

abbrev pub long_moved_left_class : ClassDef
long_moved_left_class = object_with (long_moved_left_main ∷ long_moved_left_second ∷ long_moved_left_third ∷ long_moved_left_fourth ∷ [])

abbrev pub long_moved_left_shown : Answers
long_moved_left_shown = all_from_one (codes "t" ∷ codes "t" ∷ [])
