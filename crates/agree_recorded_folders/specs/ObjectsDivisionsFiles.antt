-- The files that are put for a recorded folder.
use Rattle.std.specs.Prelude.{List, [], ◌∷◌, true, false, pos, negsuc, codes, Some}
use Rattle.js_tree.specs.Terms.{Item, null_literal, boolean_literal, undefined_literal, number_literal, big_literal, text_literal, name_use, this_use, property_of, index_of, call_of, method_call_of, new_of, new_array_of, list_of, binary_of, unary_of, conditional_of, host_call, host_call_of_two, no_expressions, expression, const_of, let_of, declare_of, expression_statement, assign_name, assign_property, assign_index, super_call, throw_of, return_of, break_nearest, break_to, if_only, if_else, while_of, do_forever, labeled_of, try_catch, try_finally, switch_on, no_statements, statement, no_cases, switch_case, constructor_of, method_of, const_item, object_item, let_item, expression_item, function_item, class_item, subclass_item}
use Rattle.js_tree.specs.declared.operators.BinaryOperator.TheVariants as Op
use Rattle.js_tree.specs.declared.operators.HostFunction.TheVariants as HostFunction
use Rattle.js_tree.specs.declared.operators.HostOperation.TheVariants as HostOperation
use Rattle.js_tree.specs.declared.operators.UnaryOperator.TheVariants.{Not, TypeOf}
use Rattle.js_mean.specs.States.{Program}
use Rattle.agree_recorded_folders.specs.Words.{no_units}

abbrev item_0 : Item
item_0 = object_item (codes "k_java_lang_Object") (record { name = (codes "s"); value = (text_literal (codes "i_java_lang_Object")) } ∷ record { name = (codes "i_java_lang_Object"); value = (number_literal (pos 1)) } ∷ [])

abbrev item_1 : Item
item_1 = class_item (codes "c_java_lang_Object") (constructor_of [] (statement (assign_property this_use (codes "k") (name_use (codes "k_java_lang_Object"))) no_statements) ∷ [])

abbrev item_2 : Item
item_2 = function_item (codes "ct_java_lang_Object__$3cinit$3e$$V") ((codes "$this") ∷ []) (statement (return_of (name_use (codes "$this"))) no_statements)

abbrev item_3 : Item
item_3 = function_item (codes "s_java_lang_Object__d$$I$$J$$V") ((codes "v_a") ∷ (codes "v_b") ∷ []) (statement (expression_statement (host_call HostFunction.ConsoleLog (binary_of (text_literal no_units) Op.Add (binary_of (text_literal no_units) Op.Add (call_of (codes "$id") (expression (number_literal (pos 7)) (expression (name_use (codes "v_a")) no_expressions))))))) (statement (expression_statement (host_call HostFunction.ConsoleLog (binary_of (text_literal no_units) Op.Add (binary_of (text_literal no_units) Op.Add (call_of (codes "$im") (expression (number_literal (pos 7)) (expression (name_use (codes "v_a")) no_expressions))))))) (statement (expression_statement (host_call HostFunction.ConsoleLog (binary_of (text_literal no_units) Op.Add (binary_of (text_literal no_units) Op.Add (call_of (codes "$ld") (expression (big_literal (pos 7)) (expression (name_use (codes "v_b")) no_expressions))))))) (statement (expression_statement (host_call HostFunction.ConsoleLog (binary_of (text_literal no_units) Op.Add (binary_of (text_literal no_units) Op.Add (call_of (codes "$lm") (expression (big_literal (pos 7)) (expression (name_use (codes "v_b")) no_expressions))))))) (statement (expression_statement (host_call HostFunction.ConsoleLog (binary_of (text_literal no_units) Op.Add (binary_of (text_literal no_units) Op.Add (binary_of (binary_of (name_use (codes "v_a")) Op.Divide (number_literal (pos 2))) Op.BitOr (number_literal (pos 0))))))) (statement (expression_statement (host_call HostFunction.ConsoleLog (binary_of (text_literal no_units) Op.Add (binary_of (text_literal no_units) Op.Add (binary_of (name_use (codes "v_b")) Op.Remainder (big_literal (pos 2))))))) no_statements))))))

abbrev item_4 : Item
item_4 = function_item (codes "s_java_lang_Object__main$$V") [] (statement (expression_statement (call_of (codes "s_java_lang_Object__d$$I$$J$$V") (expression (number_literal (pos 2)) (expression (big_literal (pos 3)) no_expressions)))) no_statements)

abbrev item_5 : Item
item_5 = function_item (codes "$ae") [] (statement (throw_of (call_of (codes "ct_java_lang_ArithmeticException__$3cinit$3e$$Ljava_lang_String$$V") (expression (new_of (codes "c_java_lang_ArithmeticException") no_expressions) (expression (text_literal (codes "/ by zero")) no_expressions)))) no_statements)

abbrev item_6 : Item
item_6 = function_item (codes "$id") ((codes "a") ∷ (codes "b") ∷ []) (statement (if_only (binary_of (name_use (codes "b")) Op.StrictEqual (number_literal (pos 0))) (statement (expression_statement (call_of (codes "$ae") no_expressions)) no_statements)) (statement (return_of (binary_of (binary_of (name_use (codes "a")) Op.Divide (name_use (codes "b"))) Op.BitOr (number_literal (pos 0)))) no_statements))

abbrev item_7 : Item
item_7 = function_item (codes "$im") ((codes "a") ∷ (codes "b") ∷ []) (statement (if_only (binary_of (name_use (codes "b")) Op.StrictEqual (number_literal (pos 0))) (statement (expression_statement (call_of (codes "$ae") no_expressions)) no_statements)) (statement (return_of (binary_of (binary_of (name_use (codes "a")) Op.Remainder (name_use (codes "b"))) Op.BitOr (number_literal (pos 0)))) no_statements))

abbrev item_8 : Item
item_8 = function_item (codes "$ld") ((codes "a") ∷ (codes "b") ∷ []) (statement (if_only (binary_of (name_use (codes "b")) Op.StrictEqual (big_literal (pos 0))) (statement (expression_statement (call_of (codes "$ae") no_expressions)) no_statements)) (statement (return_of (host_call_of_two HostOperation.BigIntAsIntN (number_literal (pos 64)) (binary_of (name_use (codes "a")) Op.Divide (name_use (codes "b"))))) no_statements))

abbrev item_9 : Item
item_9 = function_item (codes "$lm") ((codes "a") ∷ (codes "b") ∷ []) (statement (if_only (binary_of (name_use (codes "b")) Op.StrictEqual (big_literal (pos 0))) (statement (expression_statement (call_of (codes "$ae") no_expressions)) no_statements)) (statement (return_of (binary_of (name_use (codes "a")) Op.Remainder (name_use (codes "b")))) no_statements))

abbrev item_10 : Item
item_10 = object_item (codes "k_java_lang_Throwable") (record { name = (codes "s"); value = (text_literal (codes "i_java_lang_Throwable")) } ∷ record { name = (codes "i_java_lang_Object"); value = (number_literal (pos 1)) } ∷ record { name = (codes "i_java_lang_Throwable"); value = (number_literal (pos 1)) } ∷ [])

abbrev item_11 : Item
item_11 = subclass_item (codes "c_java_lang_Throwable") (codes "c_java_lang_Object") (constructor_of [] (statement super_call (statement (assign_property this_use (codes "k") (name_use (codes "k_java_lang_Throwable"))) (statement (assign_property this_use (codes "f_java_lang_Throwable__message") null_literal) no_statements))) ∷ [])

abbrev item_12 : Item
item_12 = function_item (codes "ct_java_lang_Throwable__$3cinit$3e$$Ljava_lang_String$$V") ((codes "$this") ∷ (codes "v_m") ∷ []) (statement (expression_statement (call_of (codes "ct_java_lang_Object__$3cinit$3e$$V") (expression (name_use (codes "$this")) no_expressions))) (statement (assign_property (name_use (codes "$this")) (codes "f_java_lang_Throwable__message") (name_use (codes "v_m"))) (statement (return_of (name_use (codes "$this"))) no_statements)))

abbrev item_13 : Item
item_13 = object_item (codes "k_java_lang_ArithmeticException") (record { name = (codes "s"); value = (text_literal (codes "i_java_lang_ArithmeticException")) } ∷ record { name = (codes "i_java_lang_ArithmeticException"); value = (number_literal (pos 1)) } ∷ record { name = (codes "i_java_lang_Object"); value = (number_literal (pos 1)) } ∷ record { name = (codes "i_java_lang_Throwable"); value = (number_literal (pos 1)) } ∷ [])

abbrev item_14 : Item
item_14 = subclass_item (codes "c_java_lang_ArithmeticException") (codes "c_java_lang_Throwable") (constructor_of [] (statement super_call (statement (assign_property this_use (codes "k") (name_use (codes "k_java_lang_ArithmeticException"))) no_statements)) ∷ [])

abbrev item_15 : Item
item_15 = function_item (codes "ct_java_lang_ArithmeticException__$3cinit$3e$$Ljava_lang_String$$V") ((codes "$this") ∷ (codes "v_m") ∷ []) (statement (expression_statement (call_of (codes "ct_java_lang_Throwable__$3cinit$3e$$Ljava_lang_String$$V") (expression (name_use (codes "$this")) (expression (name_use (codes "v_m")) no_expressions)))) (statement (return_of (name_use (codes "$this"))) no_statements))

abbrev item_16 : Item
item_16 = expression_item (call_of (codes "s_java_lang_Object__main$$V") no_expressions)

abbrev pub files : Program
files = record { file = (codes "main.js"); content = Some (record { imports = []; items = (item_0 ∷ item_1 ∷ item_2 ∷ item_3 ∷ item_4 ∷ item_5 ∷ item_6 ∷ item_7 ∷ item_8 ∷ item_9 ∷ item_10 ∷ item_11 ∷ item_12 ∷ item_13 ∷ item_14 ∷ item_15 ∷ item_16 ∷ []); exports = [] }) } ∷ []
