-- The files that are put for a recorded folder.
use Rattle.std.specs.Prelude.{List, [], ◌∷◌, true, false, pos, negsuc, codes, Some}
use Rattle.js_tree.specs.Terms.{Item, null_literal, boolean_literal, undefined_literal, number_literal, big_literal, text_literal, name_use, this_use, property_of, index_of, call_of, method_call_of, new_of, new_array_of, list_of, binary_of, unary_of, conditional_of, host_call, host_call_of_two, no_expressions, expression, const_of, let_of, declare_of, expression_statement, assign_name, assign_property, assign_index, super_call, throw_of, return_of, break_nearest, break_to, if_only, if_else, while_of, do_forever, labeled_of, try_catch, try_finally, switch_on, no_statements, statement, no_cases, switch_case, constructor_of, method_of, const_item, object_item, let_item, expression_item, function_item, class_item, subclass_item}
use Rattle.js_tree.specs.declared.operators.BinaryOperator.TheVariants as Op
use Rattle.js_tree.specs.declared.operators.HostFunction.TheVariants as HostFunction
use Rattle.js_tree.specs.declared.operators.HostOperation.TheVariants as HostOperation
use Rattle.js_tree.specs.declared.operators.UnaryOperator.TheVariants.{Not, TypeOf}
use Rattle.js_mean.specs.States.{Program}
use Rattle.agree_recorded_folders.specs.Words.{no_units}

abbrev item_0 : Item
item_0 = object_item (codes "k_java_lang_Object") (record { name = (codes "s"); value = (text_literal (codes "i_java_lang_Object")) } ∷ record { name = (codes "i_java_lang_Object"); value = (number_literal (pos 1)) } ∷ [])

abbrev item_1 : Item
item_1 = class_item (codes "c_java_lang_Object") (constructor_of [] (statement (assign_property this_use (codes "k") (name_use (codes "k_java_lang_Object"))) no_statements) ∷ [])

abbrev item_2 : Item
item_2 = function_item (codes "ct_java_lang_Object__$3cinit$3e$$V") ((codes "$this") ∷ []) (statement (return_of (name_use (codes "$this"))) no_statements)

abbrev item_3 : Item
item_3 = object_item (codes "k_C0") (record { name = (codes "s"); value = (text_literal (codes "i_C0")) } ∷ record { name = (codes "i_C0"); value = (number_literal (pos 1)) } ∷ record { name = (codes "i_java_lang_Object"); value = (number_literal (pos 1)) } ∷ [])

abbrev item_4 : Item
item_4 = subclass_item (codes "c_C0") (codes "c_java_lang_Object") (constructor_of [] (statement super_call (statement (assign_property this_use (codes "k") (name_use (codes "k_C0"))) no_statements)) ∷ [])

abbrev item_5 : Item
item_5 = function_item (codes "ct_C0__$3cinit$3e$$V") ((codes "$this") ∷ []) (statement (expression_statement (call_of (codes "ct_java_lang_Object__$3cinit$3e$$V") (expression (name_use (codes "$this")) no_expressions))) (statement (return_of (name_use (codes "$this"))) no_statements))

abbrev item_6 : Item
item_6 = object_item (codes "k_C1") (record { name = (codes "s"); value = (text_literal (codes "i_C1")) } ∷ record { name = (codes "i_C0"); value = (number_literal (pos 1)) } ∷ record { name = (codes "i_C1"); value = (number_literal (pos 1)) } ∷ record { name = (codes "i_java_lang_Object"); value = (number_literal (pos 1)) } ∷ [])

abbrev item_7 : Item
item_7 = subclass_item (codes "c_C1") (codes "c_C0") (constructor_of [] (statement super_call (statement (assign_property this_use (codes "k") (name_use (codes "k_C1"))) no_statements)) ∷ [])

abbrev item_8 : Item
item_8 = function_item (codes "ct_C1__$3cinit$3e$$V") ((codes "$this") ∷ []) (statement (expression_statement (call_of (codes "ct_C0__$3cinit$3e$$V") (expression (name_use (codes "$this")) no_expressions))) (statement (return_of (name_use (codes "$this"))) no_statements))

abbrev item_9 : Item
item_9 = function_item (codes "s_C1__m1$$V") [] (statement (expression_statement (host_call HostFunction.ConsoleLog (text_literal (codes "C1.1")))) (statement (expression_statement (method_call_of (call_of (codes "ct_C2__$3cinit$3e$$V") (expression (new_of (codes "c_C2") no_expressions) no_expressions)) (codes "m_v$$V") no_expressions)) (statement (expression_statement (method_call_of (call_of (codes "g_M0") no_expressions) (codes "m_v$$V") no_expressions)) no_statements)))

abbrev item_10 : Item
item_10 = object_item (codes "k_C2") (record { name = (codes "s"); value = (text_literal (codes "i_C2")) } ∷ record { name = (codes "i_C0"); value = (number_literal (pos 1)) } ∷ record { name = (codes "i_C1"); value = (number_literal (pos 1)) } ∷ record { name = (codes "i_C2"); value = (number_literal (pos 1)) } ∷ record { name = (codes "i_java_lang_Object"); value = (number_literal (pos 1)) } ∷ [])

abbrev item_11 : Item
item_11 = subclass_item (codes "c_C2") (codes "c_C1") (constructor_of [] (statement super_call (statement (assign_property this_use (codes "k") (name_use (codes "k_C2"))) no_statements)) ∷ method_of (codes "m_v$$V") [] (statement (return_of (call_of (codes "f_C2__v$$V") (expression this_use no_expressions))) no_statements) ∷ [])

abbrev item_12 : Item
item_12 = function_item (codes "ct_C2__$3cinit$3e$$V") ((codes "$this") ∷ []) (statement (expression_statement (call_of (codes "ct_C1__$3cinit$3e$$V") (expression (name_use (codes "$this")) no_expressions))) (statement (return_of (name_use (codes "$this"))) no_statements))

abbrev item_13 : Item
item_13 = function_item (codes "f_C2__v$$V") ((codes "$this") ∷ []) (statement (expression_statement (host_call HostFunction.ConsoleLog (text_literal (codes "C2.v")))) no_statements)

abbrev item_14 : Item
item_14 = object_item (codes "k_M0") (record { name = (codes "s"); value = (text_literal (codes "i_M0")) } ∷ record { name = (codes "i_C0"); value = (number_literal (pos 1)) } ∷ record { name = (codes "i_C1"); value = (number_literal (pos 1)) } ∷ record { name = (codes "i_C2"); value = (number_literal (pos 1)) } ∷ record { name = (codes "i_M0"); value = (number_literal (pos 1)) } ∷ record { name = (codes "i_java_lang_Object"); value = (number_literal (pos 1)) } ∷ [])

abbrev item_15 : Item
item_15 = subclass_item (codes "c_M0") (codes "c_C2") (constructor_of [] (statement super_call (statement (assign_property this_use (codes "k") (name_use (codes "k_M0"))) no_statements)) ∷ [])

abbrev item_16 : Item
item_16 = let_item (codes "n_M0") null_literal

abbrev item_17 : Item
item_17 = function_item (codes "g_M0") [] (statement (if_only (binary_of (name_use (codes "n_M0")) Op.StrictEqual null_literal) (statement (const_of (codes "x") (call_of (codes "ct_M0__$3cinit$3e$$V") (expression (new_of (codes "c_M0") no_expressions) no_expressions))) (statement (assign_name (codes "n_M0") (name_use (codes "x"))) no_statements))) (statement (return_of (name_use (codes "n_M0"))) no_statements))

abbrev item_18 : Item
item_18 = function_item (codes "q_M0") ((codes "x") ∷ []) (statement (assign_name (codes "n_M0") (name_use (codes "x"))) no_statements)

abbrev item_19 : Item
item_19 = function_item (codes "ct_M0__$3cinit$3e$$V") ((codes "$this") ∷ []) (statement (expression_statement (call_of (codes "ct_C2__$3cinit$3e$$V") (expression (name_use (codes "$this")) no_expressions))) (statement (expression_statement (call_of (codes "q_M0") (expression (name_use (codes "$this")) no_expressions))) (statement (expression_statement (host_call HostFunction.ConsoleLog (text_literal (codes "M0")))) (statement (return_of (name_use (codes "$this"))) no_statements))))

abbrev item_20 : Item
item_20 = expression_item (call_of (codes "s_C1__m1$$V") no_expressions)

abbrev item_21 : Item
item_21 = expression_item (call_of (codes "s_C1__m1$$V") no_expressions)

abbrev pub files : Program
files = record { file = (codes "main.js"); content = Some (record { imports = []; items = (item_0 ∷ item_1 ∷ item_2 ∷ item_3 ∷ item_4 ∷ item_5 ∷ item_6 ∷ item_7 ∷ item_8 ∷ item_9 ∷ item_10 ∷ item_11 ∷ item_12 ∷ item_13 ∷ item_14 ∷ item_15 ∷ item_16 ∷ item_17 ∷ item_18 ∷ item_19 ∷ item_20 ∷ item_21 ∷ []); exports = [] }) } ∷ []
