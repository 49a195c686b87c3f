-- The files that are put for a recorded folder.
use Rattle.std.specs.Prelude.{List, [], ◌∷◌, true, false, pos, negsuc, codes, Some}
use Rattle.js_tree.specs.Terms.{Item, null_literal, boolean_literal, undefined_literal, number_literal, big_literal, text_literal, name_use, this_use, property_of, index_of, call_of, method_call_of, new_of, new_array_of, list_of, binary_of, unary_of, conditional_of, host_call, host_call_of_two, no_expressions, expression, const_of, let_of, declare_of, expression_statement, assign_name, assign_property, assign_index, super_call, throw_of, return_of, break_nearest, break_to, if_only, if_else, while_of, do_forever, labeled_of, try_catch, try_finally, switch_on, no_statements, statement, no_cases, switch_case, constructor_of, method_of, const_item, object_item, let_item, expression_item, function_item, class_item, subclass_item}
use Rattle.js_tree.specs.declared.operators.BinaryOperator.TheVariants as Op
use Rattle.js_tree.specs.declared.operators.HostFunction.TheVariants as HostFunction
use Rattle.js_tree.specs.declared.operators.HostOperation.TheVariants as HostOperation
use Rattle.js_tree.specs.declared.operators.UnaryOperator.TheVariants.{Not, TypeOf}
use Rattle.js_mean.specs.States.{Program}
use Rattle.agree_recorded_folders.specs.Words.{no_units}

abbrev item_0 : Item
item_0 = object_item (codes "k_java_lang_Object") (record { name = (codes "s"); value = (text_literal (codes "i_java_lang_Object")) } ∷ record { name = (codes "i_java_lang_Object"); value = (number_literal (pos 1)) } ∷ [])

abbrev item_1 : Item
item_1 = class_item (codes "c_java_lang_Object") (constructor_of [] (statement (assign_property this_use (codes "k") (name_use (codes "k_java_lang_Object"))) no_statements) ∷ [])

abbrev item_2 : Item
item_2 = function_item (codes "ct_java_lang_Object__$3cinit$3e$$V") ((codes "$this") ∷ []) (statement (return_of (name_use (codes "$this"))) no_statements)

abbrev item_3 : Item
item_3 = function_item (codes "s_java_lang_Object__main$$V") [] (statement (expression_statement (method_call_of (call_of (codes "g_M") no_expressions) (codes "m_m$$V") no_expressions)) (statement (expression_statement (call_of (codes "f_S__again$$V") (expression (call_of (codes "$nn") (expression (call_of (codes "as_S") (expression null_literal no_expressions)) no_expressions)) no_expressions))) no_statements))

abbrev item_4 : Item
item_4 = function_item (codes "$cce") ((codes "t") ∷ []) (statement (throw_of (call_of (codes "ct_java_lang_ClassCastException__$3cinit$3e$$Ljava_lang_String$$V") (expression (new_of (codes "c_java_lang_ClassCastException") no_expressions) (expression (name_use (codes "t")) no_expressions)))) no_statements)

abbrev item_5 : Item
item_5 = function_item (codes "$nn") ((codes "x") ∷ []) (statement (if_only (binary_of (name_use (codes "x")) Op.StrictEqual null_literal) (statement (expression_statement (call_of (codes "$npe") no_expressions)) no_statements)) (statement (return_of (name_use (codes "x"))) no_statements))

abbrev item_6 : Item
item_6 = function_item (codes "$npe") [] (statement (throw_of (call_of (codes "ct_java_lang_NullPointerException__$3cinit$3e$$Ljava_lang_String$$V") (expression (new_of (codes "c_java_lang_NullPointerException") no_expressions) (expression (text_literal (codes "null")) no_expressions)))) no_statements)

abbrev item_7 : Item
item_7 = object_item (codes "k_L") (record { name = (codes "s"); value = (text_literal (codes "i_L")) } ∷ record { name = (codes "i_L"); value = (number_literal (pos 1)) } ∷ record { name = (codes "i_java_lang_Object"); value = (number_literal (pos 1)) } ∷ [])

abbrev item_8 : Item
item_8 = subclass_item (codes "c_L") (codes "c_java_lang_Object") (constructor_of [] (statement super_call (statement (assign_property this_use (codes "k") (name_use (codes "k_L"))) no_statements)) ∷ [])

abbrev item_9 : Item
item_9 = let_item (codes "n_L") null_literal

abbrev item_10 : Item
item_10 = function_item (codes "g_L") [] (statement (if_only (binary_of (name_use (codes "n_L")) Op.StrictEqual null_literal) (statement (const_of (codes "x") (call_of (codes "ct_L__$3cinit$3e$$V") (expression (new_of (codes "c_L") no_expressions) no_expressions))) (statement (assign_name (codes "n_L") (name_use (codes "x"))) no_statements))) (statement (return_of (name_use (codes "n_L"))) no_statements))

abbrev item_11 : Item
item_11 = function_item (codes "q_L") ((codes "x") ∷ []) (statement (assign_name (codes "n_L") (name_use (codes "x"))) no_statements)

abbrev item_12 : Item
item_12 = function_item (codes "ct_L__$3cinit$3e$$V") ((codes "$this") ∷ []) (statement (expression_statement (call_of (codes "ct_java_lang_Object__$3cinit$3e$$V") (expression (name_use (codes "$this")) no_expressions))) (statement (return_of (name_use (codes "$this"))) no_statements))

abbrev item_13 : Item
item_13 = object_item (codes "k_M") (record { name = (codes "s"); value = (text_literal (codes "i_M")) } ∷ record { name = (codes "i_M"); value = (number_literal (pos 1)) } ∷ record { name = (codes "i_java_lang_Object"); value = (number_literal (pos 1)) } ∷ [])

abbrev item_14 : Item
item_14 = subclass_item (codes "c_M") (codes "c_java_lang_Object") (constructor_of [] (statement super_call (statement (assign_property this_use (codes "k") (name_use (codes "k_M"))) no_statements)) ∷ method_of (codes "m_m$$V") [] (statement (return_of (call_of (codes "f_M__m$$V") (expression this_use no_expressions))) no_statements) ∷ [])

abbrev item_15 : Item
item_15 = let_item (codes "n_M") null_literal

abbrev item_16 : Item
item_16 = function_item (codes "g_M") [] (statement (if_only (binary_of (name_use (codes "n_M")) Op.StrictEqual null_literal) (statement (const_of (codes "x") (call_of (codes "ct_M__$3cinit$3e$$V") (expression (new_of (codes "c_M") no_expressions) no_expressions))) (statement (assign_name (codes "n_M") (name_use (codes "x"))) no_statements))) (statement (return_of (name_use (codes "n_M"))) no_statements))

abbrev item_17 : Item
item_17 = function_item (codes "q_M") ((codes "x") ∷ []) (statement (assign_name (codes "n_M") (name_use (codes "x"))) no_statements)

abbrev item_18 : Item
item_18 = function_item (codes "ct_M__$3cinit$3e$$V") ((codes "$this") ∷ []) (statement (expression_statement (call_of (codes "ct_java_lang_Object__$3cinit$3e$$V") (expression (name_use (codes "$this")) no_expressions))) (statement (expression_statement (call_of (codes "q_M") (expression (name_use (codes "$this")) no_expressions))) (statement (expression_statement (host_call HostFunction.ConsoleLog (text_literal (codes "made")))) (statement (return_of (name_use (codes "$this"))) no_statements))))

abbrev item_19 : Item
item_19 = function_item (codes "f_M__m$$V") ((codes "$this") ∷ []) (statement (expression_statement (host_call HostFunction.ConsoleLog (text_literal (codes "M")))) no_statements)

abbrev item_20 : Item
item_20 = let_item (codes "n_S") null_literal

abbrev item_21 : Item
item_21 = function_item (codes "q_S") ((codes "x") ∷ []) (statement (assign_name (codes "n_S") (name_use (codes "x"))) no_statements)

abbrev item_22 : Item
item_22 = function_item (codes "is_S") ((codes "x") ∷ []) (statement (return_of (binary_of (binary_of (name_use (codes "x")) Op.StrictNotEqual null_literal) Op.And (binary_of (binary_of (unary_of TypeOf (name_use (codes "x"))) Op.StrictEqual (text_literal (codes "object"))) Op.And (binary_of (text_literal (codes "i_S")) Op.In (property_of (name_use (codes "x")) (codes "k")))))) no_statements)

abbrev item_23 : Item
item_23 = function_item (codes "as_S") ((codes "x") ∷ []) (statement (return_of (conditional_of (binary_of (binary_of (name_use (codes "x")) Op.StrictEqual null_literal) Op.Or (call_of (codes "is_S") (expression (name_use (codes "x")) no_expressions))) (name_use (codes "x")) (call_of (codes "$cce") (expression (text_literal (codes "S")) no_expressions)))) no_statements)

abbrev item_24 : Item
item_24 = function_item (codes "ct_S__$3cinit$3e$$V") ((codes "$this") ∷ []) (statement (expression_statement (call_of (codes "ct_java_lang_Object__$3cinit$3e$$V") (expression (name_use (codes "$this")) no_expressions))) (statement (expression_statement (call_of (codes "q_S") (expression (name_use (codes "$this")) no_expressions))) (statement (expression_statement (call_of (codes "g_L") no_expressions)) (statement (return_of (name_use (codes "$this"))) no_statements))))

abbrev item_25 : Item
item_25 = function_item (codes "f_S__again$$V") ((codes "$this") ∷ []) (statement (expression_statement (call_of (codes "ct_S__$3cinit$3e$$V") (expression (name_use (codes "$this")) no_expressions))) no_statements)

abbrev item_26 : Item
item_26 = object_item (codes "k_java_lang_Throwable") (record { name = (codes "s"); value = (text_literal (codes "i_java_lang_Throwable")) } ∷ record { name = (codes "i_java_lang_Object"); value = (number_literal (pos 1)) } ∷ record { name = (codes "i_java_lang_Throwable"); value = (number_literal (pos 1)) } ∷ [])

abbrev item_27 : Item
item_27 = subclass_item (codes "c_java_lang_Throwable") (codes "c_java_lang_Object") (constructor_of [] (statement super_call (statement (assign_property this_use (codes "k") (name_use (codes "k_java_lang_Throwable"))) (statement (assign_property this_use (codes "f_java_lang_Throwable__message") null_literal) no_statements))) ∷ [])

abbrev item_28 : Item
item_28 = function_item (codes "ct_java_lang_Throwable__$3cinit$3e$$Ljava_lang_String$$V") ((codes "$this") ∷ (codes "v_m") ∷ []) (statement (expression_statement (call_of (codes "ct_java_lang_Object__$3cinit$3e$$V") (expression (name_use (codes "$this")) no_expressions))) (statement (assign_property (name_use (codes "$this")) (codes "f_java_lang_Throwable__message") (name_use (codes "v_m"))) (statement (return_of (name_use (codes "$this"))) no_statements)))

abbrev item_29 : Item
item_29 = object_item (codes "k_java_lang_ClassCastException") (record { name = (codes "s"); value = (text_literal (codes "i_java_lang_ClassCastException")) } ∷ record { name = (codes "i_java_lang_ClassCastException"); value = (number_literal (pos 1)) } ∷ record { name = (codes "i_java_lang_Object"); value = (number_literal (pos 1)) } ∷ record { name = (codes "i_java_lang_Throwable"); value = (number_literal (pos 1)) } ∷ [])

abbrev item_30 : Item
item_30 = subclass_item (codes "c_java_lang_ClassCastException") (codes "c_java_lang_Throwable") (constructor_of [] (statement super_call (statement (assign_property this_use (codes "k") (name_use (codes "k_java_lang_ClassCastException"))) no_statements)) ∷ [])

abbrev item_31 : Item
item_31 = function_item (codes "ct_java_lang_ClassCastException__$3cinit$3e$$Ljava_lang_String$$V") ((codes "$this") ∷ (codes "v_m") ∷ []) (statement (expression_statement (call_of (codes "ct_java_lang_Throwable__$3cinit$3e$$Ljava_lang_String$$V") (expression (name_use (codes "$this")) (expression (name_use (codes "v_m")) no_expressions)))) (statement (return_of (name_use (codes "$this"))) no_statements))

abbrev item_32 : Item
item_32 = object_item (codes "k_java_lang_NullPointerException") (record { name = (codes "s"); value = (text_literal (codes "i_java_lang_NullPointerException")) } ∷ record { name = (codes "i_java_lang_NullPointerException"); value = (number_literal (pos 1)) } ∷ record { name = (codes "i_java_lang_Object"); value = (number_literal (pos 1)) } ∷ record { name = (codes "i_java_lang_Throwable"); value = (number_literal (pos 1)) } ∷ [])

abbrev item_33 : Item
item_33 = subclass_item (codes "c_java_lang_NullPointerException") (codes "c_java_lang_Throwable") (constructor_of [] (statement super_call (statement (assign_property this_use (codes "k") (name_use (codes "k_java_lang_NullPointerException"))) no_statements)) ∷ [])

abbrev item_34 : Item
item_34 = function_item (codes "ct_java_lang_NullPointerException__$3cinit$3e$$Ljava_lang_String$$V") ((codes "$this") ∷ (codes "v_m") ∷ []) (statement (expression_statement (call_of (codes "ct_java_lang_Throwable__$3cinit$3e$$Ljava_lang_String$$V") (expression (name_use (codes "$this")) (expression (name_use (codes "v_m")) no_expressions)))) (statement (return_of (name_use (codes "$this"))) no_statements))

abbrev item_35 : Item
item_35 = expression_item (call_of (codes "s_java_lang_Object__main$$V") no_expressions)

abbrev pub files : Program
files = record { file = (codes "internal-d160e0986aca4714714a16f29ec605af90be704d.js"); content = Some (record { imports = []; items = (item_0 ∷ item_1 ∷ item_2 ∷ item_3 ∷ item_4 ∷ item_5 ∷ item_6 ∷ item_7 ∷ item_8 ∷ item_9 ∷ item_10 ∷ item_11 ∷ item_12 ∷ item_13 ∷ item_14 ∷ item_15 ∷ item_16 ∷ item_17 ∷ item_18 ∷ item_19 ∷ item_20 ∷ item_21 ∷ item_22 ∷ item_23 ∷ item_24 ∷ item_25 ∷ item_26 ∷ item_27 ∷ item_28 ∷ item_29 ∷ item_30 ∷ item_31 ∷ item_32 ∷ item_33 ∷ item_34 ∷ []); exports = ((codes "s_java_lang_Object__main$$V") ∷ []) }) } ∷ record { file = (codes "main.js"); content = Some (record { imports = (record { names = ((codes "s_java_lang_Object__main$$V") ∷ []); file = (codes "internal-d160e0986aca4714714a16f29ec605af90be704d.js") } ∷ []); items = (item_35 ∷ []); exports = [] }) } ∷ []
