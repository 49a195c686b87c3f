-- Classes that the reference recorded, and what each shows. In their files too each position is zero.
use Rattle.std.specs.Prelude.{◌∷◌, [], true, false, pos, negsuc, codes, Some}
use Rattle.agree_recorded.specs.Bounds.{Answers, all_from_one, times, goes_on_with, ends_with, parameter, method_of}
use Rattle.ir_mean.specs.Rows.{object_with, static_method, nowhere, logs, object_name, method_name}
use Rattle.sj_names.specs.declared.method_names.Namespace.TheVariants.{PublicStatic, PrivateStatic}
use Rattle.sj_trees.specs.Term.{no_terms, no_cases, var_def, skip, block_of, labeled, assign, return_to, if_then, while_loop, do_while, match_on, apply_static, unary_op, binary_op, undefined_literal, null_literal, boolean_literal, byte_literal, short_literal, int_literal, long_literal, string_literal, var_ref}
use Rattle.sj_trees.specs.View.{terms_of, cases_of}
use Rattle.sj_trees.specs.declared.classes.ClassDef.{ClassDef}
use Rattle.sj_trees.specs.declared.classes.MethodDef.{MethodDef}
use Rattle.sj_trees.specs.declared.operators.BinaryOp.TheVariants.{StringConcatenate, BooleanEqual, BooleanNotEqual, BooleanOr, BooleanAnd, IntAdd, IntSubtract, IntMultiply, IntDivide, IntOr, IntAnd, IntXor, IntShiftLeft, IntShiftRightLogical, IntShiftRightArithmetic, IntEqual, IntNotEqual, IntLess, IntGreaterOrEqual, LongLess, LongGreaterOrEqual}
use Rattle.sj_trees.specs.declared.operators.UnaryOp.TheVariants.{BooleanNot, ByteToInt, ShortToInt, IntToLong, IntToChar, IntToByte, IntToShort}
use Rattle.sj_trees.specs.declared.types.IrType.TheVariants as Types
use Rattle.sj_names.specs.declared.references.TypeRef.TheVariants as References

-- `main` logs `hi`
abbrev pub logs_hi_main : MethodDef
logs_hi_main = static_method (codes "main") (logs (codes "hi"))

abbrev pub logs_hi_class : ClassDef
logs_hi_class = object_with (logs_hi_main ∷ [])

abbrev pub logs_hi_shown : Answers
logs_hi_shown = all_from_one (codes "hi" ∷ [])

-- `main` calls `again`, which logs `x` and calls itself
abbrev pub calls_itself_main : MethodDef
calls_itself_main = static_method (codes "main") (apply_static nowhere object_name PublicStatic (method_name (codes "again")) no_terms Types.NoType)

abbrev pub calls_itself_again : MethodDef
calls_itself_again = static_method (codes "again") (block_of nowhere (terms_of (logs (codes "x") ∷ apply_static nowhere object_name PublicStatic (method_name (codes "again")) no_terms Types.NoType ∷ [])))

abbrev pub calls_itself_class : ClassDef
calls_itself_class = object_with (calls_itself_main ∷ calls_itself_again ∷ [])

abbrev pub calls_itself_shown : Answers
calls_itself_shown = goes_on_with [] ∷ goes_on_with [] ∷ goes_on_with (codes "x" ∷ []) ∷ goes_on_with (codes "x" ∷ codes "x" ∷ []) ∷ goes_on_with (times 9 (codes "x")) ∷ goes_on_with (times 49 (codes "x")) ∷ []

-- `main` logs a zero, half of a pair, a line separator and a quotation mark
abbrev pub odd_units_main : MethodDef
odd_units_main = static_method (codes "main") (logs (0 ∷ 55296 ∷ 8232 ∷ 34 ∷ []))

abbrev pub odd_units_class : ClassDef
odd_units_class = object_with (odd_units_main ∷ [])

abbrev pub odd_units_shown : Answers
odd_units_shown = all_from_one ((0 ∷ 55296 ∷ 8232 ∷ 34 ∷ []) ∷ [])

-- a loop of one turn, and behind it a line
abbrev pub one_turn_main : MethodDef
one_turn_main = static_method (codes "main") (block_of nowhere (terms_of (var_def nowhere (codes "i") Types.Int true (int_literal nowhere (pos 0)) ∷ while_loop nowhere (binary_op nowhere IntLess (var_ref nowhere (codes "i") Types.Int) (int_literal nowhere (pos 1))) (assign nowhere (var_ref nowhere (codes "i") Types.Int) (binary_op nowhere IntAdd (var_ref nowhere (codes "i") Types.Int) (int_literal nowhere (pos 1)))) ∷ logs (codes "done") ∷ [])))

abbrev pub one_turn_class : ClassDef
one_turn_class = object_with (one_turn_main ∷ [])

abbrev pub one_turn_shown : Answers
one_turn_shown = goes_on_with [] ∷ goes_on_with [] ∷ ends_with (codes "done" ∷ []) ∷ ends_with (codes "done" ∷ []) ∷ ends_with (codes "done" ∷ []) ∷ ends_with (codes "done" ∷ []) ∷ []

-- a loop that tests behind its body, one that is never entered, and one that a jump leaves
abbrev pub three_loops_main : MethodDef
three_loops_main = static_method (codes "main") (block_of nowhere (terms_of (do_while nowhere (logs (codes "once")) (boolean_literal nowhere false) ∷ while_loop nowhere (boolean_literal nowhere false) (logs (codes "never")) ∷ labeled nowhere (codes "l") Types.NoType (do_while nowhere (block_of nowhere (terms_of (logs (codes "in") ∷ return_to nowhere (skip nowhere) (codes "l") ∷ []))) (boolean_literal nowhere true)) ∷ logs (codes "out") ∷ [])))

abbrev pub three_loops_class : ClassDef
three_loops_class = object_with (three_loops_main ∷ [])

abbrev pub three_loops_shown : Answers
three_loops_shown = all_from_one (codes "once" ∷ codes "in" ∷ codes "out" ∷ [])

-- a definition by the value of a block
abbrev pub block_value_first : MethodDef
block_value_first = method_of PublicStatic (codes "h_0") (References.Class object_name ∷ References.Int ∷ []) References.Boolean (parameter (codes "v_x") true Types.Any ∷ parameter (codes "x$1") true Types.Int ∷ []) Types.Boolean (labeled nowhere (codes "break1") Types.Boolean (binary_op nowhere IntNotEqual (unary_op nowhere ShortToInt (short_literal nowhere (pos 0))) (int_literal nowhere (negsuc 2147483647))))

abbrev pub block_value_main : MethodDef
block_value_main = static_method (codes "main") (block_of nowhere (terms_of (var_def nowhere (codes "v_x") Types.Boolean true (block_of nowhere (terms_of (logs (codes "e8") ∷ boolean_literal nowhere false ∷ []))) ∷ [])))

abbrev pub block_value_class : ClassDef
block_value_class = object_with (block_value_first ∷ block_value_main ∷ [])

abbrev pub block_value_shown : Answers
block_value_shown = all_from_one (codes "e8" ∷ [])

-- matches whose selectors are spilled, a jump inside an operand, and a case with a definition
abbrev pub spilled_matches_first : MethodDef
spilled_matches_first = method_of PrivateStatic (codes "h_0") (References.Short ∷ []) (References.Class object_name) (parameter (codes "a0") false Types.Short ∷ []) Types.Any (block_of nowhere (terms_of (logs (codes "e6") ∷ null_literal nowhere ∷ [])))

abbrev pub spilled_matches_second : MethodDef
spilled_matches_second = method_of PublicStatic (195 ∷ 169 ∷ 49 ∷ []) (References.Int ∷ References.Boolean ∷ []) References.Boolean (parameter (codes "1") false Types.Int ∷ parameter (codes "x_") false Types.Boolean ∷ []) Types.Boolean (labeled nowhere (codes "l_1") Types.Boolean (binary_op nowhere BooleanNotEqual (block_of nowhere (terms_of (logs (codes "e6") ∷ block_of nowhere (terms_of (var_def nowhere (codes "$1") Types.Null true (null_literal nowhere) ∷ match_on nowhere (var_ref nowhere (codes "1") Types.Int) no_cases (boolean_literal nowhere true) Types.Boolean ∷ [])) ∷ []))) (binary_op nowhere IntEqual (var_ref nowhere (codes "1") Types.Int) (match_on nowhere (binary_op nowhere IntAnd (int_literal nowhere (pos 32768)) (int_literal nowhere (pos 3))) (cases_of ((negsuc 1 ∷ [], binary_op nowhere IntSubtract (var_ref nowhere (codes "1") Types.Int) (var_ref nowhere (codes "1") Types.Int)) ∷ [])) (binary_op nowhere IntMultiply (var_ref nowhere (codes "1") Types.Int) (var_ref nowhere (codes "1") Types.Int)) Types.Int))))

abbrev pub spilled_matches_third : MethodDef
spilled_matches_third = method_of PublicStatic (codes "f2") (References.Class object_name ∷ References.Long ∷ References.Byte ∷ []) References.Short (parameter (codes "console") true Types.Any ∷ parameter (codes "1") true Types.Long ∷ parameter (codes "this") false Types.Byte ∷ []) Types.Short (short_literal nowhere (pos 0))

abbrev pub spilled_matches_main : MethodDef
spilled_matches_main = static_method (codes "main") (block_of nowhere (terms_of (block_of nowhere (terms_of (var_def nowhere (codes "x'") Types.Short false (block_of nowhere (terms_of (logs (codes "e0") ∷ block_of nowhere (terms_of (logs (codes "t") ∷ short_literal nowhere (negsuc 32767) ∷ [])) ∷ []))) ∷ string_literal nowhere (codes "~ ") ∷ [])) ∷ match_on nowhere (binary_op nowhere IntAnd (binary_op nowhere IntAnd (int_literal nowhere (negsuc 128)) (int_literal nowhere (pos 255))) (labeled nowhere (195 ∷ 169 ∷ []) Types.Int (block_of nowhere (terms_of (skip nowhere ∷ return_to nowhere (int_literal nowhere (pos 3)) (195 ∷ 169 ∷ []) ∷ []))))) (cases_of ((negsuc 1 ∷ [], block_of nowhere (terms_of (var_def nowhere (codes "$this") Types.Null false (null_literal nowhere) ∷ []))) ∷ [])) (match_on nowhere (binary_op nowhere IntAnd (binary_op nowhere IntShiftRightArithmetic (int_literal nowhere (pos 32767)) (int_literal nowhere (pos 0))) (int_literal nowhere (pos 3))) (cases_of ((negsuc 0 ∷ [], block_of nowhere (terms_of (var_def nowhere (codes "$thisx") Types.Int false (int_literal nowhere (pos 31)) ∷ []))) ∷ (negsuc 2 ∷ [], block_of nowhere (terms_of (var_def nowhere (codes "l_x") Types.Int true (int_literal nowhere (negsuc 2147483647)) ∷ []))) ∷ (pos 0 ∷ [], logs (codes "a")) ∷ [])) (boolean_literal nowhere true) Types.NoType) Types.NoType ∷ [])))

abbrev pub spilled_matches_class : ClassDef
spilled_matches_class = object_with (spilled_matches_first ∷ spilled_matches_second ∷ spilled_matches_third ∷ spilled_matches_main ∷ [])

abbrev pub spilled_matches_shown : Answers
spilled_matches_shown = all_from_one (codes "e0" ∷ codes "t" ∷ [])

-- a choice in a choice, inside an expression, in a label that nothing leaves to
abbrev pub choices_main : MethodDef
choices_main = static_method (codes "main") (block_of nowhere (terms_of (labeled nowhere (codes "l__") Types.NoType (block_of nowhere (terms_of (var_def nowhere (codes "_") Types.Short false (if_then nowhere (binary_op nowhere IntGreaterOrEqual (int_literal nowhere (negsuc 2147483647)) (int_literal nowhere (pos 33))) (if_then nowhere (boolean_literal nowhere false) (short_literal nowhere (negsuc 32767)) (short_literal nowhere (pos 0)) Types.Short) (unary_op nowhere IntToShort (int_literal nowhere (pos 2147483647))) Types.Short) ∷ []))) ∷ var_def nowhere (codes "x'") Types.Byte true (byte_literal nowhere (negsuc 0)) ∷ logs (codes "t") ∷ [])))

abbrev pub choices_second : MethodDef
choices_second = method_of PublicStatic (codes "two1") (References.Boolean ∷ References.Long ∷ References.Long ∷ []) References.Short (parameter (codes "k") false Types.Boolean ∷ parameter (codes "$1") false Types.Long ∷ parameter (codes "x") true Types.Long ∷ []) Types.Short (labeled nowhere (codes "in") Types.Short (unary_op nowhere IntToShort (binary_op nowhere IntAdd (binary_op nowhere IntShiftLeft (int_literal nowhere (pos 2)) (binary_op nowhere IntShiftLeft (int_literal nowhere (pos 32)) (int_literal nowhere (negsuc 2147483646)))) (int_literal nowhere (pos 2147483647)))))

abbrev pub choices_third : MethodDef
choices_third = method_of PrivateStatic (195 ∷ 169 ∷ 48 ∷ []) (References.Int ∷ References.Class object_name ∷ []) References.Byte (parameter (codes "x_") true Types.Int ∷ parameter (codes "k") true Types.Any ∷ []) Types.Byte (byte_literal nowhere (pos 0))

abbrev pub choices_class : ClassDef
choices_class = object_with (choices_main ∷ choices_second ∷ choices_third ∷ [])

abbrev pub choices_shown : Answers
choices_shown = all_from_one (codes "t" ∷ [])

-- a match without the key, whose cases hold another match
abbrev pub no_such_key_first : MethodDef
no_such_key_first = method_of PrivateStatic (codes "two0") (References.Char ∷ References.Short ∷ []) References.Char (parameter (195 ∷ 169 ∷ []) false Types.Char ∷ parameter (codes "x'") true Types.Short ∷ []) Types.Char (unary_op nowhere IntToChar (binary_op nowhere IntShiftLeft (binary_op nowhere IntOr (binary_op nowhere IntOr (int_literal nowhere (pos 128)) (int_literal nowhere (negsuc 0))) (match_on nowhere (binary_op nowhere IntAnd (int_literal nowhere (negsuc 128)) (int_literal nowhere (pos 3))) (cases_of ((pos 2 ∷ negsuc 0 ∷ [], int_literal nowhere (pos 32)) ∷ (negsuc 2 ∷ [], int_literal nowhere (pos 255)) ∷ (pos 0 ∷ [], int_literal nowhere (pos 65535)) ∷ [])) (int_literal nowhere (negsuc 128)) Types.Int)) (if_then nowhere (binary_op nowhere BooleanEqual (boolean_literal nowhere false) (boolean_literal nowhere true)) (binary_op nowhere IntAnd (int_literal nowhere (pos 32767)) (int_literal nowhere (negsuc 127))) (block_of nowhere (terms_of (var_def nowhere (195 ∷ 169 ∷ 120 ∷ []) Types.String true (string_literal nowhere (codes "a")) ∷ var_def nowhere (codes "x") Types.Char true (var_ref nowhere (195 ∷ 169 ∷ []) Types.Char) ∷ int_literal nowhere (pos 33) ∷ []))) Types.Int)))

abbrev pub no_such_key_second : MethodDef
no_such_key_second = method_of PrivateStatic (codes "h_1") [] References.Void [] Types.NoType (block_of nowhere (terms_of (block_of nowhere (terms_of (block_of nowhere (terms_of (var_def nowhere (codes "v_x") Types.Int true (int_literal nowhere (pos 0)) ∷ while_loop nowhere (binary_op nowhere BooleanAnd (boolean_literal nowhere true) (block_of nowhere (terms_of (logs (codes "w") ∷ binary_op nowhere IntLess (var_ref nowhere (codes "v_x") Types.Int) (int_literal nowhere (pos 1)) ∷ [])))) (block_of nowhere (terms_of (assign nowhere (var_ref nowhere (codes "v_x") Types.Int) (binary_op nowhere IntAdd (var_ref nowhere (codes "v_x") Types.Int) (int_literal nowhere (pos 1))) ∷ block_of nowhere (terms_of (var_def nowhere (codes "$this") Types.Boolean false (boolean_literal nowhere true) ∷ [])) ∷ []))) ∷ [])) ∷ if_then nowhere (binary_op nowhere LongLess (long_literal nowhere (negsuc 9223372036854775806)) (long_literal nowhere (pos 3))) (skip nowhere) (skip nowhere) Types.NoType ∷ [])) ∷ logs (codes "t") ∷ logs (codes "t2") ∷ [])))

abbrev pub no_such_key_main : MethodDef
no_such_key_main = static_method (codes "main") (match_on nowhere (int_literal nowhere (pos 33)) (cases_of ((pos 5 ∷ pos 4 ∷ [], block_of nowhere (terms_of (match_on nowhere (binary_op nowhere IntAnd (int_literal nowhere (pos 7)) (int_literal nowhere (pos 3))) (cases_of ((pos 5 ∷ [], logs (233 ∷ 55357 ∷ 56832 ∷ [])) ∷ (pos 4 ∷ negsuc 0 ∷ [], block_of nowhere (terms_of (var_def nowhere (codes "x1") Types.Byte true (byte_literal nowhere (pos 1)) ∷ []))) ∷ [])) (logs (codes "t")) Types.NoType ∷ logs (codes "t") ∷ []))) ∷ [])) (logs (codes "t6")) Types.NoType)

abbrev pub no_such_key_class : ClassDef
no_such_key_class = object_with (no_such_key_first ∷ no_such_key_second ∷ no_such_key_main ∷ [])

abbrev pub no_such_key_shown : Answers
no_such_key_shown = all_from_one (codes "t6" ∷ [])

-- operators on literals
abbrev pub no_lines_main : MethodDef
no_lines_main = static_method (codes "main") (block_of nowhere (terms_of (var_def nowhere (codes "k") Types.Int false (binary_op nowhere IntOr (binary_op nowhere IntOr (binary_op nowhere IntAdd (int_literal nowhere (pos 255)) (int_literal nowhere (negsuc 32768))) (int_literal nowhere (negsuc 128))) (int_literal nowhere (pos 33))) ∷ [])))

abbrev pub no_lines_second : MethodDef
no_lines_second = method_of PublicStatic (195 ∷ 169 ∷ 50 ∷ []) (References.Long ∷ References.Boolean ∷ References.Char ∷ []) References.Void (parameter (codes "1") false Types.Long ∷ parameter (195 ∷ 169 ∷ []) false Types.Boolean ∷ parameter (codes "y") false Types.Char ∷ []) Types.NoType (block_of nowhere (terms_of (block_of nowhere (terms_of (var_def nowhere (codes "k") Types.Int true (match_on nowhere (int_literal nowhere (negsuc 2147483646)) no_cases (block_of nowhere (terms_of (skip nowhere ∷ int_literal nowhere (pos 256) ∷ []))) Types.Int) ∷ [])) ∷ var_def nowhere (codes "break") Types.String false (labeled nowhere (codes "break_") Types.String (block_of nowhere (terms_of (if_then nowhere (binary_op nowhere LongGreaterOrEqual (var_ref nowhere (codes "1") Types.Long) (var_ref nowhere (codes "1") Types.Long)) (return_to nowhere (string_literal nowhere (0 ∷ 55296 ∷ 8232 ∷ 34 ∷ [])) (codes "break_")) (return_to nowhere (string_literal nowhere (codes "a")) (codes "break_")) Types.Nothing ∷ block_of nowhere (terms_of (logs (codes "e3") ∷ binary_op nowhere StringConcatenate (int_literal nowhere (pos 33)) (string_literal nowhere (codes "~ ")) ∷ [])) ∷ [])))) ∷ block_of nowhere (terms_of (logs (0 ∷ 55296 ∷ 8232 ∷ 34 ∷ []) ∷ if_then nowhere (var_ref nowhere (195 ∷ 169 ∷ []) Types.Boolean) (block_of nowhere (terms_of (block_of nowhere (terms_of (block_of nowhere (terms_of (var_def nowhere (codes "console") Types.Int true (int_literal nowhere (pos 0)) ∷ while_loop nowhere (binary_op nowhere BooleanAnd (boolean_literal nowhere true) (block_of nowhere (terms_of (logs (codes "w") ∷ binary_op nowhere IntLess (var_ref nowhere (codes "console") Types.Int) (int_literal nowhere (pos 2)) ∷ [])))) (block_of nowhere (terms_of (assign nowhere (var_ref nowhere (codes "console") Types.Int) (binary_op nowhere IntAdd (var_ref nowhere (codes "console") Types.Int) (int_literal nowhere (pos 1))) ∷ logs (codes "t") ∷ []))) ∷ [])) ∷ block_of nowhere (terms_of (var_def nowhere (codes "l_x") Types.Boolean false (var_ref nowhere (195 ∷ 169 ∷ []) Types.Boolean) ∷ [])) ∷ [])) ∷ var_def nowhere (codes "x") Types.Long true (apply_static nowhere object_name PublicStatic (record { simple = (195 ∷ 169 ∷ 49 ∷ []); params = []; result = Some References.Long }) no_terms Types.Long) ∷ []))) (skip nowhere) Types.NoType ∷ [])) ∷ [])))

abbrev pub no_lines_third : MethodDef
no_lines_third = method_of PublicStatic (195 ∷ 169 ∷ 49 ∷ []) [] References.Long [] Types.Long (labeled nowhere (codes "k1") Types.Long (block_of nowhere (terms_of (logs (codes "e7") ∷ unary_op nowhere IntToLong (int_literal nowhere (negsuc 0)) ∷ []))))

abbrev pub no_lines_fourth : MethodDef
no_lines_fourth = method_of PrivateStatic (codes "h_0") (References.Short ∷ []) References.Byte (parameter (codes "x$1") true Types.Short ∷ []) Types.Byte (byte_literal nowhere (pos 0))

abbrev pub no_lines_class : ClassDef
no_lines_class = object_with (no_lines_main ∷ no_lines_second ∷ no_lines_third ∷ no_lines_fourth ∷ [])

abbrev pub no_lines_shown : Answers
no_lines_shown = all_from_one []

-- a loop whose condition logs
abbrev pub four_turns_main : MethodDef
four_turns_main = static_method (codes "main") (block_of nowhere (terms_of (var_def nowhere (codes "console") Types.Null true (null_literal nowhere) ∷ var_def nowhere (codes "$this") Types.Null true (var_ref nowhere (codes "console") Types.Null) ∷ skip nowhere ∷ block_of nowhere (terms_of (var_def nowhere (codes "y") Types.Int true (int_literal nowhere (pos 0)) ∷ while_loop nowhere (block_of nowhere (terms_of (logs (codes "c") ∷ binary_op nowhere IntLess (var_ref nowhere (codes "y") Types.Int) (int_literal nowhere (pos 3)) ∷ []))) (block_of nowhere (terms_of (assign nowhere (var_ref nowhere (codes "y") Types.Int) (binary_op nowhere IntAdd (var_ref nowhere (codes "y") Types.Int) (int_literal nowhere (pos 1))) ∷ block_of nowhere (terms_of (var_def nowhere (codes "x$1") Types.Byte false (byte_literal nowhere (negsuc 127)) ∷ var_def nowhere (codes "l_x") Types.Undefined true (undefined_literal nowhere) ∷ [])) ∷ []))) ∷ [])) ∷ [])))

abbrev pub four_turns_second : MethodDef
four_turns_second = method_of PublicStatic (codes "two2") (References.Char ∷ References.Short ∷ References.Int ∷ []) References.Char (parameter (codes "a0") false Types.Char ∷ parameter (195 ∷ 169 ∷ []) false Types.Short ∷ parameter (195 ∷ 169 ∷ 36 ∷ []) true Types.Int ∷ []) Types.Char (unary_op nowhere IntToChar (block_of nowhere (terms_of (logs (codes "e1") ∷ labeled nowhere (codes "in") Types.Int (block_of nowhere (terms_of (if_then nowhere (boolean_literal nowhere false) (return_to nowhere (var_ref nowhere (195 ∷ 169 ∷ 36 ∷ []) Types.Int) (codes "in")) (skip nowhere) Types.NoType ∷ binary_op nowhere IntOr (int_literal nowhere (pos 32)) (var_ref nowhere (195 ∷ 169 ∷ 36 ∷ []) Types.Int) ∷ []))) ∷ []))))

abbrev pub four_turns_third : MethodDef
four_turns_third = method_of PublicStatic (codes "f1") (References.Long ∷ References.Class object_name ∷ References.Class object_name ∷ []) References.Int (parameter (codes "x$1") true Types.Long ∷ parameter (codes "$1") false Types.Any ∷ parameter (codes "y") false Types.Any ∷ []) Types.Int (if_then nowhere (binary_op nowhere BooleanOr (binary_op nowhere IntEqual (binary_op nowhere IntDivide (int_literal nowhere (pos 128)) (int_literal nowhere (pos 32767))) (binary_op nowhere IntSubtract (int_literal nowhere (pos 1)) (int_literal nowhere (negsuc 32768)))) (binary_op nowhere IntEqual (binary_op nowhere IntXor (int_literal nowhere (pos 65536)) (int_literal nowhere (pos 7))) (binary_op nowhere IntAdd (int_literal nowhere (pos 7)) (int_literal nowhere (pos 3))))) (binary_op nowhere IntAdd (match_on nowhere (binary_op nowhere IntAnd (binary_op nowhere IntAdd (int_literal nowhere (pos 32)) (int_literal nowhere (negsuc 2147483647))) (int_literal nowhere (pos 3))) (cases_of ((negsuc 0 ∷ negsuc 2 ∷ [], binary_op nowhere IntXor (int_literal nowhere (pos 33)) (int_literal nowhere (negsuc 127))) ∷ (pos 2 ∷ pos 3 ∷ [], binary_op nowhere IntDivide (int_literal nowhere (negsuc 0)) (int_literal nowhere (pos 256))) ∷ [])) (binary_op nowhere IntAdd (int_literal nowhere (pos 127)) (int_literal nowhere (pos 32767))) Types.Int) (labeled nowhere (codes "l__") Types.Int (block_of nowhere (terms_of (if_then nowhere (boolean_literal nowhere false) (return_to nowhere (int_literal nowhere (pos 32768)) (codes "l__")) (skip nowhere) Types.NoType ∷ binary_op nowhere IntShiftRightArithmetic (int_literal nowhere (pos 128)) (int_literal nowhere (negsuc 0)) ∷ []))))) (int_literal nowhere (pos 2147483647)) Types.Int)

abbrev pub four_turns_fourth : MethodDef
four_turns_fourth = method_of PublicStatic (195 ∷ 169 ∷ 48 ∷ []) [] References.Short [] Types.Short (labeled nowhere (codes "l_1") Types.Short (unary_op nowhere IntToShort (binary_op nowhere IntMultiply (binary_op nowhere IntShiftRightLogical (int_literal nowhere (negsuc 2147483646)) (block_of nowhere (terms_of (logs (codes "e7") ∷ int_literal nowhere (pos 2) ∷ [])))) (binary_op nowhere IntShiftRightArithmetic (unary_op nowhere ByteToInt (byte_literal nowhere (negsuc 0))) (int_literal nowhere (pos 97))))))

abbrev pub four_turns_class : ClassDef
four_turns_class = object_with (four_turns_main ∷ four_turns_second ∷ four_turns_third ∷ four_turns_fourth ∷ [])

abbrev pub four_turns_shown : Answers
four_turns_shown = goes_on_with [] ∷ goes_on_with (codes "c" ∷ []) ∷ goes_on_with (codes "c" ∷ codes "c" ∷ []) ∷ goes_on_with (codes "c" ∷ codes "c" ∷ codes "c" ∷ []) ∷ ends_with (codes "c" ∷ codes "c" ∷ codes "c" ∷ codes "c" ∷ []) ∷ ends_with (codes "c" ∷ codes "c" ∷ codes "c" ∷ codes "c" ∷ []) ∷ []

-- a branch of a choice logs, and the other is taken
abbrev pub choice_with_lines_main : MethodDef
choice_with_lines_main = static_method (codes "main") (block_of nowhere (terms_of (var_def nowhere (codes "x") Types.Null true (block_of nowhere (terms_of (logs (codes "e2") ∷ if_then nowhere (if_then nowhere (boolean_literal nowhere true) (boolean_literal nowhere false) (boolean_literal nowhere false) Types.Boolean) (block_of nowhere (terms_of (logs (codes "e2") ∷ null_literal nowhere ∷ []))) (null_literal nowhere) Types.Null ∷ []))) ∷ [])))

abbrev pub choice_with_lines_second : MethodDef
choice_with_lines_second = method_of PrivateStatic (codes "two1") (References.Int ∷ []) References.Long (parameter (codes "_") false Types.Int ∷ []) Types.Long (long_literal nowhere (pos 9007199254740993))

abbrev pub choice_with_lines_third : MethodDef
choice_with_lines_third = method_of PublicStatic (codes "g0") (References.Class object_name ∷ []) References.Byte (parameter (codes "x1") true Types.Any ∷ []) Types.Byte (unary_op nowhere IntToByte (binary_op nowhere IntSubtract (if_then nowhere (unary_op nowhere BooleanNot (boolean_literal nowhere false)) (int_literal nowhere (pos 255)) (int_literal nowhere (pos 32767)) Types.Int) (int_literal nowhere (pos 31))))

abbrev pub choice_with_lines_class : ClassDef
choice_with_lines_class = object_with (choice_with_lines_main ∷ choice_with_lines_second ∷ choice_with_lines_third ∷ [])

abbrev pub choice_with_lines_shown : Answers
choice_with_lines_shown = all_from_one (codes "e2" ∷ [])
