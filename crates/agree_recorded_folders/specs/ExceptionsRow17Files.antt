-- The files that are put for a recorded folder.
use Rattle.std.specs.Prelude.{List, [], ◌∷◌, true, false, pos, negsuc, codes, Some}
use Rattle.js_tree.specs.Terms.{Item, null_literal, boolean_literal, undefined_literal, number_literal, big_literal, text_literal, name_use, this_use, property_of, index_of, call_of, method_call_of, new_of, new_array_of, list_of, binary_of, unary_of, conditional_of, host_call, host_call_of_two, no_expressions, expression, const_of, let_of, declare_of, expression_statement, assign_name, assign_property, assign_index, super_call, throw_of, return_of, break_nearest, break_to, if_only, if_else, while_of, do_forever, labeled_of, try_catch, try_finally, switch_on, no_statements, statement, no_cases, switch_case, constructor_of, method_of, const_item, object_item, let_item, expression_item, function_item, class_item, subclass_item}
use Rattle.js_tree.specs.declared.operators.BinaryOperator.TheVariants as Op
use Rattle.js_tree.specs.declared.operators.HostFunction.TheVariants as HostFunction
use Rattle.js_tree.specs.declared.operators.HostOperation.TheVariants as HostOperation
use Rattle.js_tree.specs.declared.operators.UnaryOperator.TheVariants.{Not, TypeOf}
use Rattle.js_mean.specs.States.{Program}
use Rattle.agree_recorded_folders.specs.Words.{no_units}

abbrev item_0 : Item
item_0 = object_item (codes "k_java_lang_Object") (record { name = (codes "s"); value = (text_literal (codes "i_java_lang_Object")) } ∷ record { name = (codes "i_java_lang_Object"); value = (number_literal (pos 1)) } ∷ [])

abbrev item_1 : Item
item_1 = class_item (codes "c_java_lang_Object") (constructor_of [] (statement (assign_property this_use (codes "k") (name_use (codes "k_java_lang_Object"))) no_statements) ∷ [])

abbrev item_2 : Item
item_2 = function_item (codes "ct_java_lang_Object__$3cinit$3e$$V") ((codes "$this") ∷ []) (statement (return_of (name_use (codes "$this"))) no_statements)

abbrev item_3 : Item
item_3 = function_item (codes "s_java_lang_Object__main$$V") [] (statement (expression_statement (host_call HostFunction.ConsoleLog (binary_of (text_literal no_units) Op.Add (binary_of (text_literal no_units) Op.Add (call_of (codes "as_java_lang_String") (expression (call_of (codes "r_name$$R") (expression (call_of (codes "ct_A__$3cinit$3e$$V") (expression (new_of (codes "c_A") no_expressions) no_expressions)) no_expressions)) no_expressions)))))) (statement (expression_statement (host_call HostFunction.ConsoleLog (binary_of (text_literal no_units) Op.Add (binary_of (text_literal no_units) Op.Add (call_of (codes "as_java_lang_String") (expression (call_of (codes "r_name$$R") (expression (text_literal (codes "s")) no_expressions)) no_expressions)))))) (statement (try_catch (statement (expression_statement (call_of (codes "r_name$$R") (expression (call_of (codes "ct_C__$3cinit$3e$$V") (expression (new_of (codes "c_C") no_expressions) no_expressions)) no_expressions))) no_statements) (codes "v_e") (statement (expression_statement (host_call HostFunction.ConsoleLog (binary_of (text_literal no_units) Op.Add (binary_of (text_literal no_units) Op.Add (method_call_of (call_of (codes "$nn") (expression (call_of (codes "as_java_lang_Throwable") (expression (name_use (codes "v_e")) no_expressions)) no_expressions)) (codes "m_getMessage$$Ljava_lang_String") no_expressions))))) no_statements)) no_statements)))

abbrev item_4 : Item
item_4 = function_item (codes "$cce") ((codes "t") ∷ []) (statement (throw_of (call_of (codes "ct_java_lang_ClassCastException__$3cinit$3e$$Ljava_lang_String$$V") (expression (new_of (codes "c_java_lang_ClassCastException") no_expressions) (expression (name_use (codes "t")) no_expressions)))) no_statements)

abbrev item_5 : Item
item_5 = function_item (codes "$isT") ((codes "x") ∷ []) (statement (return_of (binary_of (unary_of TypeOf (name_use (codes "x"))) Op.StrictEqual (text_literal (codes "string")))) no_statements)

abbrev item_6 : Item
item_6 = function_item (codes "$nme") ((codes "t") ∷ []) (statement (throw_of (call_of (codes "ct_java_lang_NoSuchMethodException__$3cinit$3e$$Ljava_lang_String$$V") (expression (new_of (codes "c_java_lang_NoSuchMethodException") no_expressions) (expression (name_use (codes "t")) no_expressions)))) no_statements)

abbrev item_7 : Item
item_7 = function_item (codes "$nn") ((codes "x") ∷ []) (statement (if_only (binary_of (name_use (codes "x")) Op.StrictEqual null_literal) (statement (expression_statement (call_of (codes "$npe") no_expressions)) no_statements)) (statement (return_of (name_use (codes "x"))) no_statements))

abbrev item_8 : Item
item_8 = function_item (codes "$npe") [] (statement (throw_of (call_of (codes "ct_java_lang_NullPointerException__$3cinit$3e$$Ljava_lang_String$$V") (expression (new_of (codes "c_java_lang_NullPointerException") no_expressions) (expression (text_literal (codes "null")) no_expressions)))) no_statements)

abbrev item_9 : Item
item_9 = function_item (codes "r_name$$R") ((codes "x") ∷ []) (statement (if_only (call_of (codes "$isT") (expression (name_use (codes "x")) no_expressions)) (statement (return_of (call_of (codes "f_java_lang_String__name$$Ljava_lang_String") (expression (name_use (codes "x")) no_expressions))) no_statements)) (statement (if_only (binary_of (binary_of (unary_of TypeOf (name_use (codes "x"))) Op.StrictEqual (text_literal (codes "object"))) Op.And (binary_of (text_literal (codes "m_name$$R")) Op.In (name_use (codes "x")))) (statement (return_of (method_call_of (name_use (codes "x")) (codes "m_name$$R") no_expressions)) no_statements)) (statement (expression_statement (call_of (codes "$nme") (expression (text_literal (codes "name;R")) no_expressions))) no_statements)))

abbrev item_10 : Item
item_10 = object_item (codes "k_A") (record { name = (codes "s"); value = (text_literal (codes "i_A")) } ∷ record { name = (codes "i_A"); value = (number_literal (pos 1)) } ∷ record { name = (codes "i_java_lang_Object"); value = (number_literal (pos 1)) } ∷ [])

abbrev item_11 : Item
item_11 = subclass_item (codes "c_A") (codes "c_java_lang_Object") (constructor_of [] (statement super_call (statement (assign_property this_use (codes "k") (name_use (codes "k_A"))) no_statements)) ∷ method_of (codes "m_name$$Ljava_lang_String") [] (statement (return_of (call_of (codes "f_A__name$$Ljava_lang_String") (expression this_use no_expressions))) no_statements) ∷ method_of (codes "m_name$$R") [] (statement (return_of (method_call_of this_use (codes "m_name$$Ljava_lang_String") no_expressions)) no_statements) ∷ [])

abbrev item_12 : Item
item_12 = function_item (codes "ct_A__$3cinit$3e$$V") ((codes "$this") ∷ []) (statement (expression_statement (call_of (codes "ct_java_lang_Object__$3cinit$3e$$V") (expression (name_use (codes "$this")) no_expressions))) (statement (return_of (name_use (codes "$this"))) no_statements))

abbrev item_13 : Item
item_13 = function_item (codes "f_A__name$$Ljava_lang_String") ((codes "$this") ∷ []) (statement (return_of (text_literal (codes "A"))) no_statements)

abbrev item_14 : Item
item_14 = object_item (codes "k_C") (record { name = (codes "s"); value = (text_literal (codes "i_C")) } ∷ record { name = (codes "i_C"); value = (number_literal (pos 1)) } ∷ record { name = (codes "i_java_lang_Object"); value = (number_literal (pos 1)) } ∷ [])

abbrev item_15 : Item
item_15 = subclass_item (codes "c_C") (codes "c_java_lang_Object") (constructor_of [] (statement super_call (statement (assign_property this_use (codes "k") (name_use (codes "k_C"))) no_statements)) ∷ [])

abbrev item_16 : Item
item_16 = function_item (codes "ct_C__$3cinit$3e$$V") ((codes "$this") ∷ []) (statement (expression_statement (call_of (codes "ct_java_lang_Object__$3cinit$3e$$V") (expression (name_use (codes "$this")) no_expressions))) (statement (return_of (name_use (codes "$this"))) no_statements))

abbrev item_17 : Item
item_17 = function_item (codes "is_java_lang_String") ((codes "x") ∷ []) (statement (return_of (call_of (codes "$isT") (expression (name_use (codes "x")) no_expressions))) no_statements)

abbrev item_18 : Item
item_18 = function_item (codes "as_java_lang_String") ((codes "x") ∷ []) (statement (return_of (conditional_of (binary_of (binary_of (name_use (codes "x")) Op.StrictEqual null_literal) Op.Or (call_of (codes "is_java_lang_String") (expression (name_use (codes "x")) no_expressions))) (name_use (codes "x")) (call_of (codes "$cce") (expression (text_literal (codes "java.lang.String")) no_expressions)))) no_statements)

abbrev item_19 : Item
item_19 = function_item (codes "f_java_lang_String__name$$Ljava_lang_String") ((codes "$this") ∷ []) (statement (return_of (text_literal (codes "S"))) no_statements)

abbrev item_20 : Item
item_20 = object_item (codes "k_java_lang_Throwable") (record { name = (codes "s"); value = (text_literal (codes "i_java_lang_Throwable")) } ∷ record { name = (codes "i_java_lang_Object"); value = (number_literal (pos 1)) } ∷ record { name = (codes "i_java_lang_Throwable"); value = (number_literal (pos 1)) } ∷ [])

abbrev item_21 : Item
item_21 = subclass_item (codes "c_java_lang_Throwable") (codes "c_java_lang_Object") (constructor_of [] (statement super_call (statement (assign_property this_use (codes "k") (name_use (codes "k_java_lang_Throwable"))) (statement (assign_property this_use (codes "f_java_lang_Throwable__message") null_literal) no_statements))) ∷ method_of (codes "m_getMessage$$Ljava_lang_String") [] (statement (return_of (call_of (codes "f_java_lang_Throwable__getMessage$$Ljava_lang_String") (expression this_use no_expressions))) no_statements) ∷ [])

abbrev item_22 : Item
item_22 = function_item (codes "is_java_lang_Throwable") ((codes "x") ∷ []) (statement (return_of (binary_of (binary_of (name_use (codes "x")) Op.StrictNotEqual null_literal) Op.And (binary_of (binary_of (unary_of TypeOf (name_use (codes "x"))) Op.StrictEqual (text_literal (codes "object"))) Op.And (binary_of (text_literal (codes "i_java_lang_Throwable")) Op.In (property_of (name_use (codes "x")) (codes "k")))))) no_statements)

abbrev item_23 : Item
item_23 = function_item (codes "as_java_lang_Throwable") ((codes "x") ∷ []) (statement (return_of (conditional_of (binary_of (binary_of (name_use (codes "x")) Op.StrictEqual null_literal) Op.Or (call_of (codes "is_java_lang_Throwable") (expression (name_use (codes "x")) no_expressions))) (name_use (codes "x")) (call_of (codes "$cce") (expression (text_literal (codes "java.lang.Throwable")) no_expressions)))) no_statements)

abbrev item_24 : Item
item_24 = function_item (codes "ct_java_lang_Throwable__$3cinit$3e$$Ljava_lang_String$$V") ((codes "$this") ∷ (codes "v_m") ∷ []) (statement (expression_statement (call_of (codes "ct_java_lang_Object__$3cinit$3e$$V") (expression (name_use (codes "$this")) no_expressions))) (statement (assign_property (name_use (codes "$this")) (codes "f_java_lang_Throwable__message") (name_use (codes "v_m"))) (statement (return_of (name_use (codes "$this"))) no_statements)))

abbrev item_25 : Item
item_25 = function_item (codes "f_java_lang_Throwable__getMessage$$Ljava_lang_String") ((codes "$this") ∷ []) (statement (return_of (property_of (name_use (codes "$this")) (codes "f_java_lang_Throwable__message"))) no_statements)

abbrev item_26 : Item
item_26 = object_item (codes "k_java_lang_ClassCastException") (record { name = (codes "s"); value = (text_literal (codes "i_java_lang_ClassCastException")) } ∷ record { name = (codes "i_java_lang_ClassCastException"); value = (number_literal (pos 1)) } ∷ record { name = (codes "i_java_lang_Object"); value = (number_literal (pos 1)) } ∷ record { name = (codes "i_java_lang_Throwable"); value = (number_literal (pos 1)) } ∷ [])

abbrev item_27 : Item
item_27 = subclass_item (codes "c_java_lang_ClassCastException") (codes "c_java_lang_Throwable") (constructor_of [] (statement super_call (statement (assign_property this_use (codes "k") (name_use (codes "k_java_lang_ClassCastException"))) no_statements)) ∷ [])

abbrev item_28 : Item
item_28 = function_item (codes "ct_java_lang_ClassCastException__$3cinit$3e$$Ljava_lang_String$$V") ((codes "$this") ∷ (codes "v_m") ∷ []) (statement (expression_statement (call_of (codes "ct_java_lang_Throwable__$3cinit$3e$$Ljava_lang_String$$V") (expression (name_use (codes "$this")) (expression (name_use (codes "v_m")) no_expressions)))) (statement (return_of (name_use (codes "$this"))) no_statements))

abbrev item_29 : Item
item_29 = object_item (codes "k_java_lang_NoSuchMethodException") (record { name = (codes "s"); value = (text_literal (codes "i_java_lang_NoSuchMethodException")) } ∷ record { name = (codes "i_java_lang_NoSuchMethodException"); value = (number_literal (pos 1)) } ∷ record { name = (codes "i_java_lang_Object"); value = (number_literal (pos 1)) } ∷ record { name = (codes "i_java_lang_Throwable"); value = (number_literal (pos 1)) } ∷ [])

abbrev item_30 : Item
item_30 = subclass_item (codes "c_java_lang_NoSuchMethodException") (codes "c_java_lang_Throwable") (constructor_of [] (statement super_call (statement (assign_property this_use (codes "k") (name_use (codes "k_java_lang_NoSuchMethodException"))) no_statements)) ∷ [])

abbrev item_31 : Item
item_31 = function_item (codes "ct_java_lang_NoSuchMethodException__$3cinit$3e$$Ljava_lang_String$$V") ((codes "$this") ∷ (codes "v_m") ∷ []) (statement (expression_statement (call_of (codes "ct_java_lang_Throwable__$3cinit$3e$$Ljava_lang_String$$V") (expression (name_use (codes "$this")) (expression (name_use (codes "v_m")) no_expressions)))) (statement (return_of (name_use (codes "$this"))) no_statements))

abbrev item_32 : Item
item_32 = object_item (codes "k_java_lang_NullPointerException") (record { name = (codes "s"); value = (text_literal (codes "i_java_lang_NullPointerException")) } ∷ record { name = (codes "i_java_lang_NullPointerException"); value = (number_literal (pos 1)) } ∷ record { name = (codes "i_java_lang_Object"); value = (number_literal (pos 1)) } ∷ record { name = (codes "i_java_lang_Throwable"); value = (number_literal (pos 1)) } ∷ [])

abbrev item_33 : Item
item_33 = subclass_item (codes "c_java_lang_NullPointerException") (codes "c_java_lang_Throwable") (constructor_of [] (statement super_call (statement (assign_property this_use (codes "k") (name_use (codes "k_java_lang_NullPointerException"))) no_statements)) ∷ [])

abbrev item_34 : Item
item_34 = function_item (codes "ct_java_lang_NullPointerException__$3cinit$3e$$Ljava_lang_String$$V") ((codes "$this") ∷ (codes "v_m") ∷ []) (statement (expression_statement (call_of (codes "ct_java_lang_Throwable__$3cinit$3e$$Ljava_lang_String$$V") (expression (name_use (codes "$this")) (expression (name_use (codes "v_m")) no_expressions)))) (statement (return_of (name_use (codes "$this"))) no_statements))

abbrev item_35 : Item
item_35 = expression_item (call_of (codes "s_java_lang_Object__main$$V") no_expressions)

abbrev pub files : Program
files = record { file = (codes "main.js"); content = Some (record { imports = []; items = (item_0 ∷ item_1 ∷ item_2 ∷ item_3 ∷ item_4 ∷ item_5 ∷ item_6 ∷ item_7 ∷ item_8 ∷ item_9 ∷ item_10 ∷ item_11 ∷ item_12 ∷ item_13 ∷ item_14 ∷ item_15 ∷ item_16 ∷ item_17 ∷ item_18 ∷ item_19 ∷ item_20 ∷ item_21 ∷ item_22 ∷ item_23 ∷ item_24 ∷ item_25 ∷ item_26 ∷ item_27 ∷ item_28 ∷ item_29 ∷ item_30 ∷ item_31 ∷ item_32 ∷ item_33 ∷ item_34 ∷ item_35 ∷ []); exports = [] }) } ∷ []
