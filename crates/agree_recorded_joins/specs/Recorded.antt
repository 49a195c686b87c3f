-- Classes that the reference recorded, with joined texts and characters, and what each shows. In their files too each position is zero.
use Rattle.std.specs.Prelude.{◌∷◌, [], ◌++◌, true, false, pos, negsuc, codes, Some}
use Rattle.agree_recorded.specs.Bounds.{Answers, all_from_one, goes_on_with, ends_with, parameter, method_of}
use Rattle.ir_mean.specs.Rows.{object_with, static_method, nowhere, logs, object_name}
use Rattle.sj_names.specs.declared.method_names.Namespace.TheVariants.{PublicStatic, PrivateStatic}
use Rattle.sj_trees.specs.Term.{no_terms, no_cases, var_def, skip, block_of, labeled, assign, return_to, if_then, while_loop, match_on, apply_static, unary_op, binary_op, undefined_literal, null_literal, boolean_literal, char_literal, byte_literal, short_literal, int_literal, long_literal, string_literal, var_ref, log_line}
use Rattle.sj_trees.specs.View.{terms_of, cases_of}
use Rattle.sj_trees.specs.declared.classes.ClassDef.{ClassDef}
use Rattle.sj_trees.specs.declared.classes.MethodDef.{MethodDef}
use Rattle.sj_trees.specs.declared.operators.BinaryOp.TheVariants.{StringConcatenate, BooleanEqual, BooleanNotEqual, BooleanOr, BooleanAnd, IntAdd, IntMultiply, IntDivide, IntOr, IntAnd, IntXor, IntShiftLeft, IntShiftRightLogical, IntShiftRightArithmetic, IntNotEqual, IntLess, IntLessOrEqual, IntGreaterOrEqual, LongMultiply, LongDivide, LongRemainder, LongOr, LongAnd, LongXor, LongShiftRightArithmetic, LongLessOrEqual}
use Rattle.sj_trees.specs.declared.operators.UnaryOp.TheVariants.{CharToInt, IntToLong, IntToChar, IntToByte, IntToShort}
use Rattle.sj_trees.specs.declared.types.IrType.TheVariants as Types
use Rattle.sj_names.specs.declared.references.TypeRef.TheVariants as References

-- a call whose loop triples its parameter, and the result as a text
abbrev pub tripled_main : MethodDef
tripled_main = static_method (codes "main") (log_line nowhere (binary_op nowhere StringConcatenate (string_literal nowhere []) (apply_static nowhere object_name PublicStatic (record { simple = (codes "f"); params = References.Int ∷ []; result = Some References.Int }) (terms_of (int_literal nowhere (pos 1) ∷ [])) Types.Int)))

abbrev pub tripled_second : MethodDef
tripled_second = method_of PublicStatic (codes "f") (References.Int ∷ []) References.Int (parameter (codes "p") true Types.Int ∷ []) Types.Int (block_of nowhere (terms_of (while_loop nowhere (binary_op nowhere IntLess (var_ref nowhere (codes "p") Types.Int) (int_literal nowhere (pos 10))) (assign nowhere (var_ref nowhere (codes "p") Types.Int) (binary_op nowhere IntMultiply (var_ref nowhere (codes "p") Types.Int) (int_literal nowhere (pos 3)))) ∷ var_ref nowhere (codes "p") Types.Int ∷ [])))

abbrev pub tripled_class : ClassDef
tripled_class = object_with (tripled_main ∷ tripled_second ∷ [])

abbrev pub tripled_shown : Answers
tripled_shown = goes_on_with [] ∷ goes_on_with [] ∷ goes_on_with [] ∷ goes_on_with [] ∷ ends_with (codes "27" ∷ []) ∷ ends_with (codes "27" ∷ []) ∷ []

-- a sum whose left operand is a call and whose right one logs
abbrev pub spilled_call_main : MethodDef
spilled_call_main = static_method (codes "main") (log_line nowhere (binary_op nowhere StringConcatenate (string_literal nowhere []) (apply_static nowhere object_name PublicStatic (record { simple = (codes "two"); params = []; result = Some References.Int }) no_terms Types.Int)))

abbrev pub spilled_call_second : MethodDef
spilled_call_second = method_of PublicStatic (codes "one") [] References.Int [] Types.Int (int_literal nowhere (pos 1))

abbrev pub spilled_call_third : MethodDef
spilled_call_third = method_of PublicStatic (codes "two") [] References.Int [] Types.Int (binary_op nowhere IntAdd (apply_static nowhere object_name PublicStatic (record { simple = (codes "one"); params = []; result = Some References.Int }) no_terms Types.Int) (block_of nowhere (terms_of (logs (codes "x") ∷ int_literal nowhere (pos 2) ∷ []))))

abbrev pub spilled_call_class : ClassDef
spilled_call_class = object_with (spilled_call_main ∷ spilled_call_second ∷ spilled_call_third ∷ [])

abbrev pub spilled_call_shown : Answers
spilled_call_shown = goes_on_with [] ∷ goes_on_with [] ∷ goes_on_with [] ∷ ends_with (codes "x" ∷ codes "3" ∷ []) ∷ ends_with (codes "x" ∷ codes "3" ∷ []) ∷ ends_with (codes "x" ∷ codes "3" ∷ []) ∷ []

-- a method that adds two to what another gives
abbrev pub call_in_a_call_main : MethodDef
call_in_a_call_main = static_method (codes "main") (log_line nowhere (binary_op nowhere StringConcatenate (string_literal nowhere []) (apply_static nowhere object_name PublicStatic (record { simple = (codes "two"); params = []; result = Some References.Int }) no_terms Types.Int)))

abbrev pub call_in_a_call_second : MethodDef
call_in_a_call_second = method_of PublicStatic (codes "one") [] References.Int [] Types.Int (int_literal nowhere (pos 1))

abbrev pub call_in_a_call_third : MethodDef
call_in_a_call_third = method_of PublicStatic (codes "two") [] References.Int [] Types.Int (binary_op nowhere IntAdd (apply_static nowhere object_name PublicStatic (record { simple = (codes "one"); params = []; result = Some References.Int }) no_terms Types.Int) (block_of nowhere (terms_of (skip nowhere ∷ int_literal nowhere (pos 2) ∷ []))))

abbrev pub call_in_a_call_class : ClassDef
call_in_a_call_class = object_with (call_in_a_call_main ∷ call_in_a_call_second ∷ call_in_a_call_third ∷ [])

abbrev pub call_in_a_call_shown : Answers
call_in_a_call_shown = goes_on_with [] ∷ goes_on_with [] ∷ goes_on_with [] ∷ ends_with (codes "3" ∷ []) ∷ ends_with (codes "3" ∷ []) ∷ ends_with (codes "3" ∷ []) ∷ []

-- a label that is left with a value
abbrev pub left_with_a_value_main : MethodDef
left_with_a_value_main = static_method (codes "main") (block_of nowhere (terms_of (var_def nowhere (codes "x") Types.Int false (labeled nowhere (codes "x") Types.Int (if_then nowhere (boolean_literal nowhere true) (return_to nowhere (int_literal nowhere (pos 1)) (codes "x")) (int_literal nowhere (pos 2)) Types.Int)) ∷ log_line nowhere (binary_op nowhere StringConcatenate (string_literal nowhere []) (var_ref nowhere (codes "x") Types.Int)) ∷ [])))

abbrev pub left_with_a_value_class : ClassDef
left_with_a_value_class = object_with (left_with_a_value_main ∷ [])

abbrev pub left_with_a_value_shown : Answers
left_with_a_value_shown = all_from_one (codes "1" ∷ [])

-- a match that takes a case by its second key, and one whose value is joined
abbrev pub matches_by_key_main : MethodDef
matches_by_key_main = static_method (codes "main") (block_of nowhere (terms_of (match_on nowhere (int_literal nowhere (pos 2)) (cases_of ((pos 1 ∷ negsuc 4 ∷ [], logs (codes "a")) ∷ ([], logs (codes "b")) ∷ (pos 2 ∷ pos 3 ∷ [], logs (codes "c")) ∷ [])) (logs (codes "d")) Types.NoType ∷ log_line nowhere (binary_op nowhere StringConcatenate (string_literal nowhere []) (match_on nowhere (int_literal nowhere (pos 9)) no_cases (block_of nowhere (terms_of (logs (codes "s") ∷ int_literal nowhere (pos 4) ∷ []))) Types.Int)) ∷ [])))

abbrev pub matches_by_key_class : ClassDef
matches_by_key_class = object_with (matches_by_key_main ∷ [])

abbrev pub matches_by_key_shown : Answers
matches_by_key_shown = all_from_one (codes "c" ∷ codes "s" ∷ codes "4" ∷ [])

-- joined texts of null, undefined, a boolean, a byte, a short, a long and chars
abbrev pub joined_values_main : MethodDef
joined_values_main = static_method (codes "main") (block_of nowhere (terms_of (log_line nowhere (binary_op nowhere StringConcatenate (binary_op nowhere StringConcatenate (binary_op nowhere StringConcatenate (string_literal nowhere []) (null_literal nowhere)) (undefined_literal nowhere)) (binary_op nowhere StringConcatenate (boolean_literal nowhere true) (char_literal nowhere 55296))) ∷ log_line nowhere (binary_op nowhere StringConcatenate (byte_literal nowhere (negsuc 127)) (short_literal nowhere (negsuc 32767))) ∷ log_line nowhere (binary_op nowhere StringConcatenate (long_literal nowhere (negsuc 9223372036854775807)) (char_literal nowhere 97)) ∷ [])))

abbrev pub joined_values_class : ClassDef
joined_values_class = object_with (joined_values_main ∷ [])

abbrev pub joined_values_shown : Answers
joined_values_shown = all_from_one ((codes "nullundefinedtrue" ++ 55296 ∷ []) ∷ codes "-128-32768" ∷ codes "-9223372036854775808a" ∷ [])

-- an operand of a joined text logs
abbrev pub joined_behind_a_line_main : MethodDef
joined_behind_a_line_main = static_method (codes "main") (block_of nowhere (terms_of (log_line nowhere (binary_op nowhere StringConcatenate (block_of nowhere (terms_of (logs (codes "e5") ∷ byte_literal nowhere (negsuc 127) ∷ []))) (string_literal nowhere [])) ∷ log_line nowhere (binary_op nowhere StringConcatenate (if_then nowhere (binary_op nowhere BooleanOr (boolean_literal nowhere true) (boolean_literal nowhere true)) (int_literal nowhere (pos 0)) (binary_op nowhere IntShiftRightArithmetic (int_literal nowhere (pos 97)) (int_literal nowhere (pos 3))) Types.Int) (null_literal nowhere)) ∷ [])))

abbrev pub joined_behind_a_line_second : MethodDef
joined_behind_a_line_second = method_of PublicStatic (codes "f2") [] References.Long [] Types.Long (labeled nowhere (195 ∷ 169 ∷ 49 ∷ []) Types.Long (binary_op nowhere LongAnd (if_then nowhere (binary_op nowhere IntNotEqual (int_literal nowhere (pos 1)) (apply_static nowhere object_name PublicStatic (record { simple = (codes "h_0"); params = References.Boolean ∷ []; result = Some References.Int }) (terms_of (boolean_literal nowhere true ∷ [])) Types.Int)) (binary_op nowhere LongRemainder (binary_op nowhere LongXor (long_literal nowhere (pos 0)) (long_literal nowhere (pos 4611686018427387904))) (long_literal nowhere (pos 4294967296))) (binary_op nowhere LongMultiply (long_literal nowhere (pos 9223372036854775807)) (long_literal nowhere (negsuc 2147483647))) Types.Long) (long_literal nowhere (pos 9223372036854775807))))

abbrev pub joined_behind_a_line_third : MethodDef
joined_behind_a_line_third = method_of PrivateStatic (codes "g1") (References.Class object_name ∷ []) References.Void (parameter (codes "$this") false Types.Any ∷ []) Types.NoType (block_of nowhere (terms_of (var_def nowhere (195 ∷ 169 ∷ []) Types.Any true (binary_op nowhere LongShiftRightArithmetic (unary_op nowhere IntToLong (int_literal nowhere (negsuc 2147483647))) (int_literal nowhere (pos 0))) ∷ assign nowhere (var_ref nowhere (195 ∷ 169 ∷ []) Types.Any) (unary_op nowhere IntToByte (apply_static nowhere object_name PublicStatic (record { simple = (codes "h_0"); params = References.Boolean ∷ []; result = Some References.Int }) (terms_of (boolean_literal nowhere false ∷ [])) Types.Int)) ∷ var_def nowhere (codes "x'") Types.Null false (null_literal nowhere) ∷ var_def nowhere (codes "break") Types.String true (string_literal nowhere []) ∷ [])))

abbrev pub joined_behind_a_line_fourth : MethodDef
joined_behind_a_line_fourth = method_of PublicStatic (codes "h_0") (References.Boolean ∷ []) References.Int (parameter (codes "$this") false Types.Boolean ∷ []) Types.Int (binary_op nowhere IntShiftLeft (binary_op nowhere IntShiftRightArithmetic (block_of nowhere (terms_of (logs (codes "e4") ∷ block_of nowhere (terms_of (var_def nowhere (codes "y") Types.Int true (int_literal nowhere (pos 65536)) ∷ var_ref nowhere (codes "y") Types.Int ∷ [])) ∷ []))) (block_of nowhere (terms_of (logs (codes "e6") ∷ binary_op nowhere IntXor (int_literal nowhere (pos 65536)) (int_literal nowhere (pos 33)) ∷ [])))) (binary_op nowhere IntDivide (int_literal nowhere (negsuc 128)) (int_literal nowhere (pos 32))))

abbrev pub joined_behind_a_line_class : ClassDef
joined_behind_a_line_class = object_with (joined_behind_a_line_main ∷ joined_behind_a_line_second ∷ joined_behind_a_line_third ∷ joined_behind_a_line_fourth ∷ [])

abbrev pub joined_behind_a_line_shown : Answers
joined_behind_a_line_shown = all_from_one (codes "e5" ∷ codes "-128" ∷ codes "0null" ∷ [])

-- longs compared, and null behind a line joined to undefined
abbrev pub joined_nulls_main : MethodDef
joined_nulls_main = static_method (codes "main") (block_of nowhere (terms_of (block_of nowhere (terms_of (var_def nowhere (codes "console") Types.Int false (int_literal nowhere (negsuc 128)) ∷ log_line nowhere (binary_op nowhere StringConcatenate (unary_op nowhere IntToShort (var_ref nowhere (codes "console") Types.Int)) (short_literal nowhere (pos 0))) ∷ [])) ∷ block_of nowhere (terms_of (var_def nowhere (codes "x_") Types.Boolean true (binary_op nowhere BooleanEqual (binary_op nowhere LongLessOrEqual (long_literal nowhere (pos 2)) (long_literal nowhere (negsuc 9223372036854775806))) (boolean_literal nowhere true)) ∷ log_line nowhere (binary_op nowhere StringConcatenate (undefined_literal nowhere) (block_of nowhere (terms_of (logs (codes "e4") ∷ null_literal nowhere ∷ [])))) ∷ [])) ∷ var_def nowhere (codes "v_x") Types.Null true (if_then nowhere (if_then nowhere (boolean_literal nowhere false) (boolean_literal nowhere true) (boolean_literal nowhere true) Types.Boolean) (null_literal nowhere) (null_literal nowhere) Types.Null) ∷ [])))

abbrev pub joined_nulls_second : MethodDef
joined_nulls_second = method_of PublicStatic (codes "g0") (References.Long ∷ []) References.Byte (parameter (codes "k") false Types.Long ∷ []) Types.Byte (block_of nowhere (terms_of (log_line nowhere (binary_op nowhere StringConcatenate (if_then nowhere (boolean_literal nowhere true) (int_literal nowhere (negsuc 0)) (int_literal nowhere (pos 1)) Types.Int) (char_literal nowhere 55296)) ∷ byte_literal nowhere (negsuc 0) ∷ [])))

abbrev pub joined_nulls_class : ClassDef
joined_nulls_class = object_with (joined_nulls_main ∷ joined_nulls_second ∷ [])

abbrev pub joined_nulls_shown : Answers
joined_nulls_shown = all_from_one (codes "-1290" ∷ codes "e4" ∷ codes "undefinednull" ∷ [])

-- an int, a text and a pair of units joined
abbrev pub joined_letters_first : MethodDef
joined_letters_first = method_of PublicStatic (codes "two0") [] References.Long [] Types.Long (labeled nowhere (195 ∷ 169 ∷ 49 ∷ []) Types.Long (binary_op nowhere LongXor (binary_op nowhere LongShiftRightArithmetic (binary_op nowhere LongOr (labeled nowhere (codes "l_") Types.Long (block_of nowhere (terms_of (if_then nowhere (boolean_literal nowhere true) (return_to nowhere (long_literal nowhere (pos 4294967296)) (codes "l_")) (skip nowhere) Types.NoType ∷ logs (codes "t4") ∷ long_literal nowhere (negsuc 9223372036854775806) ∷ [])))) (long_literal nowhere (negsuc 2147483647))) (int_literal nowhere (negsuc 128))) (long_literal nowhere (pos 2))))

abbrev pub joined_letters_second : MethodDef
joined_letters_second = method_of PublicStatic (codes "h_1") (References.Int ∷ []) References.Void (parameter (codes "x") true Types.Int ∷ []) Types.NoType (block_of nowhere (terms_of (assign nowhere (var_ref nowhere (codes "x") Types.Int) (binary_op nowhere IntOr (var_ref nowhere (codes "x") Types.Int) (binary_op nowhere IntShiftLeft (if_then nowhere (boolean_literal nowhere true) (var_ref nowhere (codes "x") Types.Int) (var_ref nowhere (codes "x") Types.Int) Types.Int) (binary_op nowhere IntDivide (var_ref nowhere (codes "x") Types.Int) (int_literal nowhere (pos 1))))) ∷ var_def nowhere (codes "$1") Types.Byte false (if_then nowhere (boolean_literal nowhere true) (byte_literal nowhere (negsuc 0)) (byte_literal nowhere (pos 1)) Types.Byte) ∷ logs (codes "t") ∷ var_def nowhere (codes "this") Types.Byte false (byte_literal nowhere (pos 0)) ∷ [])))

abbrev pub joined_letters_main : MethodDef
joined_letters_main = static_method (codes "main") (block_of nowhere (terms_of (log_line nowhere (binary_op nowhere StringConcatenate (binary_op nowhere StringConcatenate (binary_op nowhere IntOr (int_literal nowhere (pos 97)) (int_literal nowhere (pos 33))) (string_literal nowhere (codes "a"))) (string_literal nowhere (233 ∷ 55357 ∷ 56832 ∷ []))) ∷ logs (codes "t9") ∷ skip nowhere ∷ [])))

abbrev pub joined_letters_class : ClassDef
joined_letters_class = object_with (joined_letters_first ∷ joined_letters_second ∷ joined_letters_main ∷ [])

abbrev pub joined_letters_shown : Answers
joined_letters_shown = all_from_one ((57 ∷ 55 ∷ 97 ∷ 233 ∷ 55357 ∷ 56832 ∷ []) ∷ codes "t9" ∷ [])

-- a char of an int joined, and a loop in a label
abbrev pub char_of_an_int_first : MethodDef
char_of_an_int_first = method_of PublicStatic (195 ∷ 169 ∷ 48 ∷ []) (References.Class object_name ∷ References.Byte ∷ []) References.Byte (parameter (codes "$this") true Types.Any ∷ parameter (codes "x1") false Types.Byte ∷ []) Types.Byte (unary_op nowhere IntToByte (int_literal nowhere (pos 256)))

abbrev pub char_of_an_int_main : MethodDef
char_of_an_int_main = static_method (codes "main") (block_of nowhere (terms_of (block_of nowhere (terms_of (log_line nowhere (binary_op nowhere StringConcatenate (unary_op nowhere IntToChar (int_literal nowhere (pos 7))) (binary_op nowhere StringConcatenate (string_literal nowhere []) (string_literal nowhere (codes "hi")))) ∷ var_def nowhere (codes "a0") Types.Boolean true (binary_op nowhere IntNotEqual (block_of nowhere (terms_of (logs (codes "e9") ∷ int_literal nowhere (pos 2147483647) ∷ []))) (int_literal nowhere (pos 2147483647))) ∷ [])) ∷ block_of nowhere (terms_of (labeled nowhere (codes "in") Types.NoType (block_of nowhere (terms_of (block_of nowhere (terms_of (block_of nowhere (terms_of (logs (codes "t") ∷ var_def nowhere (codes "console") Types.Undefined false (undefined_literal nowhere) ∷ [])) ∷ block_of nowhere (terms_of (var_def nowhere (codes "1") Types.Int true (int_literal nowhere (pos 0)) ∷ while_loop nowhere (binary_op nowhere IntLess (var_ref nowhere (codes "1") Types.Int) (int_literal nowhere (pos 1))) (block_of nowhere (terms_of (assign nowhere (var_ref nowhere (codes "1") Types.Int) (binary_op nowhere IntAdd (var_ref nowhere (codes "1") Types.Int) (int_literal nowhere (pos 1))) ∷ logs (codes "t") ∷ []))) ∷ [])) ∷ [])) ∷ var_def nowhere (codes "console0") Types.Int true (binary_op nowhere IntAdd (int_literal nowhere (pos 32)) (int_literal nowhere (pos 97))) ∷ skip nowhere ∷ []))) ∷ logs (codes "t") ∷ [])) ∷ [])))

abbrev pub char_of_an_int_class : ClassDef
char_of_an_int_class = object_with (char_of_an_int_first ∷ char_of_an_int_main ∷ [])

abbrev pub char_of_an_int_shown : Answers
char_of_an_int_shown = goes_on_with [] ∷ goes_on_with ((7 ∷ 104 ∷ 105 ∷ []) ∷ codes "e9" ∷ codes "t" ∷ codes "t" ∷ []) ∷ ends_with ((7 ∷ 104 ∷ 105 ∷ []) ∷ codes "e9" ∷ codes "t" ∷ codes "t" ∷ codes "t" ∷ []) ∷ ends_with ((7 ∷ 104 ∷ 105 ∷ []) ∷ codes "e9" ∷ codes "t" ∷ codes "t" ∷ codes "t" ∷ []) ∷ ends_with ((7 ∷ 104 ∷ 105 ∷ []) ∷ codes "e9" ∷ codes "t" ∷ codes "t" ∷ codes "t" ∷ []) ∷ ends_with ((7 ∷ 104 ∷ 105 ∷ []) ∷ codes "e9" ∷ codes "t" ∷ codes "t" ∷ codes "t" ∷ []) ∷ []

-- a label that is left behind a line, as a condition
abbrev pub left_behind_a_line_main : MethodDef
left_behind_a_line_main = static_method (codes "main") (block_of nowhere (terms_of (log_line nowhere (binary_op nowhere StringConcatenate (binary_op nowhere StringConcatenate (undefined_literal nowhere) (long_literal nowhere (pos 1234567890123456789))) (binary_op nowhere BooleanEqual (boolean_literal nowhere true) (boolean_literal nowhere true))) ∷ if_then nowhere (labeled nowhere (codes "k1") Types.Boolean (block_of nowhere (terms_of (if_then nowhere (boolean_literal nowhere true) (return_to nowhere (block_of nowhere (terms_of (logs (codes "t2") ∷ var_def nowhere (codes "console") Types.Short true (short_literal nowhere (negsuc 32767)) ∷ boolean_literal nowhere false ∷ []))) (codes "k1")) (skip nowhere) Types.NoType ∷ log_line nowhere (binary_op nowhere StringConcatenate (int_literal nowhere (negsuc 2147483646)) (long_literal nowhere (negsuc 0))) ∷ boolean_literal nowhere false ∷ [])))) (skip nowhere) (skip nowhere) Types.NoType ∷ logs (codes "t8") ∷ [])))

abbrev pub left_behind_a_line_second : MethodDef
left_behind_a_line_second = method_of PrivateStatic (codes "f1") (References.Char ∷ References.Byte ∷ References.Byte ∷ []) (References.Class object_name) (parameter (codes "console") true Types.Char ∷ parameter (codes "x1") false Types.Byte ∷ parameter (codes "$1") true Types.Byte ∷ []) Types.Any (labeled nowhere (codes "in_") Types.Any (block_of nowhere (terms_of (log_line nowhere (binary_op nowhere StringConcatenate (block_of nowhere (terms_of (logs (codes "e7") ∷ undefined_literal nowhere ∷ []))) (binary_op nowhere LongDivide (long_literal nowhere (pos 9007199254740993)) (long_literal nowhere (pos 9223372036854775807)))) ∷ null_literal nowhere ∷ []))))

abbrev pub left_behind_a_line_third : MethodDef
left_behind_a_line_third = method_of PublicStatic (codes "h_0") (References.Short ∷ References.Int ∷ []) References.Byte (parameter (codes "console") false Types.Short ∷ parameter (codes "1") false Types.Int ∷ []) Types.Byte (unary_op nowhere IntToByte (if_then nowhere (binary_op nowhere BooleanOr (binary_op nowhere IntLessOrEqual (var_ref nowhere (codes "1") Types.Int) (int_literal nowhere (pos 31))) (block_of nowhere (terms_of (logs (codes "e4") ∷ boolean_literal nowhere true ∷ [])))) (binary_op nowhere IntShiftRightLogical (if_then nowhere (boolean_literal nowhere true) (var_ref nowhere (codes "1") Types.Int) (var_ref nowhere (codes "1") Types.Int) Types.Int) (labeled nowhere (codes "x_") Types.Int (block_of nowhere (terms_of (if_then nowhere (boolean_literal nowhere true) (return_to nowhere (var_ref nowhere (codes "1") Types.Int) (codes "x_")) (skip nowhere) Types.NoType ∷ int_literal nowhere (pos 255) ∷ []))))) (block_of nowhere (terms_of (logs (codes "e3") ∷ binary_op nowhere IntShiftLeft (var_ref nowhere (codes "1") Types.Int) (var_ref nowhere (codes "1") Types.Int) ∷ []))) Types.Int))

abbrev pub left_behind_a_line_class : ClassDef
left_behind_a_line_class = object_with (left_behind_a_line_main ∷ left_behind_a_line_second ∷ left_behind_a_line_third ∷ [])

abbrev pub left_behind_a_line_shown : Answers
left_behind_a_line_shown = all_from_one (codes "undefined1234567890123456789true" ∷ codes "t2" ∷ codes "t8" ∷ [])

-- a call of a method that calls one that gives a long, with matches in it
abbrev pub calls_behind_calls_first : MethodDef
calls_behind_calls_first = method_of PublicStatic (195 ∷ 169 ∷ 48 ∷ []) (References.Boolean ∷ References.Byte ∷ []) References.Byte (parameter (codes "x") true Types.Boolean ∷ parameter (codes "x_") true Types.Byte ∷ []) Types.Byte (unary_op nowhere IntToByte (if_then nowhere (binary_op nowhere IntGreaterOrEqual (binary_op nowhere IntXor (int_literal nowhere (pos 7)) (int_literal nowhere (pos 0))) (int_literal nowhere (pos 31))) (int_literal nowhere (pos 32)) (int_literal nowhere (pos 65536)) Types.Int))

abbrev pub calls_behind_calls_second : MethodDef
calls_behind_calls_second = method_of PublicStatic (codes "two1") (References.Int ∷ []) References.Long (parameter (codes "$this") false Types.Int ∷ []) Types.Long (labeled nowhere (codes "in") Types.Long (unary_op nowhere IntToLong (binary_op nowhere IntShiftRightLogical (match_on nowhere (binary_op nowhere IntAnd (unary_op nowhere CharToInt (char_literal nowhere 55296)) (int_literal nowhere (pos 3))) (cases_of ((pos 5 ∷ pos 3 ∷ [], match_on nowhere (binary_op nowhere IntAnd (var_ref nowhere (codes "$this") Types.Int) (int_literal nowhere (pos 3))) (cases_of ((pos 5 ∷ [], var_ref nowhere (codes "$this") Types.Int) ∷ [])) (var_ref nowhere (codes "$this") Types.Int) Types.Int) ∷ (pos 0 ∷ [], block_of nowhere (terms_of (skip nowhere ∷ logs (codes "t") ∷ var_ref nowhere (codes "$this") Types.Int ∷ []))) ∷ [])) (binary_op nowhere IntOr (int_literal nowhere (pos 3)) (var_ref nowhere (codes "$this") Types.Int)) Types.Int) (match_on nowhere (binary_op nowhere IntAnd (var_ref nowhere (codes "$this") Types.Int) (int_literal nowhere (pos 3))) (cases_of ((pos 0 ∷ [], block_of nowhere (terms_of (logs (codes "e0") ∷ var_ref nowhere (codes "$this") Types.Int ∷ []))) ∷ (negsuc 0 ∷ [], var_ref nowhere (codes "$this") Types.Int) ∷ (pos 3 ∷ negsuc 2 ∷ [], var_ref nowhere (codes "$this") Types.Int) ∷ [])) (var_ref nowhere (codes "$this") Types.Int) Types.Int))))

abbrev pub calls_behind_calls_third : MethodDef
calls_behind_calls_third = method_of PublicStatic (codes "two2") (References.Boolean ∷ []) References.Void (parameter (codes "1") true Types.Boolean ∷ []) Types.NoType (log_line nowhere (binary_op nowhere StringConcatenate (binary_op nowhere IntAnd (binary_op nowhere IntXor (int_literal nowhere (negsuc 127)) (int_literal nowhere (pos 97))) (block_of nowhere (terms_of (var_def nowhere (codes "console") Types.Int true (int_literal nowhere (negsuc 127)) ∷ var_ref nowhere (codes "console") Types.Int ∷ [])))) (apply_static nowhere object_name PublicStatic (record { simple = (codes "two1"); params = References.Int ∷ []; result = Some References.Long }) (terms_of (binary_op nowhere IntShiftLeft (int_literal nowhere (pos 128)) (int_literal nowhere (negsuc 2147483647)) ∷ [])) Types.Long)))

abbrev pub calls_behind_calls_main : MethodDef
calls_behind_calls_main = static_method (codes "main") (block_of nowhere (terms_of (apply_static nowhere object_name PublicStatic (record { simple = (codes "two2"); params = References.Boolean ∷ []; result = Some References.Void }) (terms_of (binary_op nowhere BooleanAnd (binary_op nowhere BooleanAnd (boolean_literal nowhere true) (boolean_literal nowhere true)) (match_on nowhere (int_literal nowhere (pos 256)) no_cases (boolean_literal nowhere false) Types.Boolean) ∷ [])) Types.NoType ∷ logs (127 ∷ 31 ∷ 32 ∷ []) ∷ [])))

abbrev pub calls_behind_calls_class : ClassDef
calls_behind_calls_class = object_with (calls_behind_calls_first ∷ calls_behind_calls_second ∷ calls_behind_calls_third ∷ calls_behind_calls_main ∷ [])

abbrev pub calls_behind_calls_shown : Answers
calls_behind_calls_shown = goes_on_with [] ∷ goes_on_with [] ∷ goes_on_with [] ∷ ends_with (codes "t" ∷ codes "e0" ∷ codes "-128128" ∷ (127 ∷ 31 ∷ 32 ∷ []) ∷ []) ∷ ends_with (codes "t" ∷ codes "e0" ∷ codes "-128128" ∷ (127 ∷ 31 ∷ 32 ∷ []) ∷ []) ∷ ends_with (codes "t" ∷ codes "e0" ∷ codes "-128128" ∷ (127 ∷ 31 ∷ 32 ∷ []) ∷ []) ∷ []

-- a text that is kept in front of a line
abbrev pub kept_text_first : MethodDef
kept_text_first = method_of PrivateStatic (codes "g0") (References.Class object_name ∷ References.Class object_name ∷ []) References.Boolean (parameter (codes "x$1") false Types.Any ∷ parameter (codes "break") false Types.Any ∷ []) Types.Boolean (labeled nowhere (195 ∷ 169 ∷ []) Types.Boolean (labeled nowhere (codes "l_") Types.Boolean (block_of nowhere (terms_of (block_of nowhere (terms_of (block_of nowhere (terms_of (match_on nowhere (int_literal nowhere (pos 256)) no_cases (block_of nowhere (terms_of (var_def nowhere (codes "x1") Types.Short true (short_literal nowhere (negsuc 32767)) ∷ []))) Types.NoType ∷ return_to nowhere (boolean_literal nowhere false) (codes "l_") ∷ [])) ∷ var_def nowhere (codes "x") Types.Undefined false (undefined_literal nowhere) ∷ [])) ∷ return_to nowhere (binary_op nowhere BooleanNotEqual (boolean_literal nowhere false) (binary_op nowhere IntGreaterOrEqual (int_literal nowhere (negsuc 2147483647)) (binary_op nowhere IntShiftRightArithmetic (int_literal nowhere (negsuc 32768)) (int_literal nowhere (pos 3))))) (codes "l_") ∷ [])))))

abbrev pub kept_text_main : MethodDef
kept_text_main = static_method (codes "main") (block_of nowhere (terms_of (var_def nowhere (codes "x") Types.String false (binary_op nowhere StringConcatenate (binary_op nowhere StringConcatenate (unary_op nowhere IntToByte (int_literal nowhere (negsuc 127))) (binary_op nowhere StringConcatenate (byte_literal nowhere (pos 0)) (null_literal nowhere))) (unary_op nowhere IntToShort (block_of nowhere (terms_of (logs (codes "e7") ∷ int_literal nowhere (pos 33) ∷ []))))) ∷ boolean_literal nowhere true ∷ skip nowhere ∷ [])))

abbrev pub kept_text_class : ClassDef
kept_text_class = object_with (kept_text_first ∷ kept_text_main ∷ [])

abbrev pub kept_text_shown : Answers
kept_text_shown = all_from_one (codes "e7" ∷ [])
