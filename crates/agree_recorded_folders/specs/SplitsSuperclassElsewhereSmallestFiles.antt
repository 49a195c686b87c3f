-- The files that are put for a recorded folder.
use Rattle.std.specs.Prelude.{List, [], ◌∷◌, true, false, pos, negsuc, codes, Some}
use Rattle.js_tree.specs.Terms.{Item, null_literal, boolean_literal, undefined_literal, number_literal, big_literal, text_literal, name_use, this_use, property_of, index_of, call_of, method_call_of, new_of, new_array_of, list_of, binary_of, unary_of, conditional_of, host_call, host_call_of_two, no_expressions, expression, const_of, let_of, declare_of, expression_statement, assign_name, assign_property, assign_index, super_call, throw_of, return_of, break_nearest, break_to, if_only, if_else, while_of, do_forever, labeled_of, try_catch, try_finally, switch_on, no_statements, statement, no_cases, switch_case, constructor_of, method_of, const_item, object_item, let_item, expression_item, function_item, class_item, subclass_item}
use Rattle.js_tree.specs.declared.operators.BinaryOperator.TheVariants as Op
use Rattle.js_tree.specs.declared.operators.HostFunction.TheVariants as HostFunction
use Rattle.js_tree.specs.declared.operators.HostOperation.TheVariants as HostOperation
use Rattle.js_tree.specs.declared.operators.UnaryOperator.TheVariants.{Not, TypeOf}
use Rattle.js_mean.specs.States.{Program}
use Rattle.agree_recorded_folders.specs.Words.{no_units}

abbrev item_0 : Item
item_0 = expression_item (call_of (codes "s_C__main$$V") no_expressions)

abbrev item_1 : Item
item_1 = expression_item (call_of (codes "s_A__main$$V") no_expressions)

abbrev item_2 : Item
item_2 = expression_item (call_of (codes "s_A__main$$V") no_expressions)

abbrev item_3 : Item
item_3 = object_item (codes "k_java_lang_Object") (record { name = (codes "s"); value = (text_literal (codes "i_java_lang_Object")) } ∷ record { name = (codes "i_java_lang_Object"); value = (number_literal (pos 1)) } ∷ [])

abbrev item_4 : Item
item_4 = class_item (codes "c_java_lang_Object") (constructor_of [] (statement (assign_property this_use (codes "k") (name_use (codes "k_java_lang_Object"))) no_statements) ∷ [])

abbrev item_5 : Item
item_5 = function_item (codes "ct_java_lang_Object__$3cinit$3e$$V") ((codes "$this") ∷ []) (statement (return_of (name_use (codes "$this"))) no_statements)

abbrev item_6 : Item
item_6 = function_item (codes "s_java_lang_Object__hi$$V") [] (statement (expression_statement (host_call HostFunction.ConsoleLog (text_literal (codes "hi")))) no_statements)

abbrev item_7 : Item
item_7 = function_item (codes "s_C__main$$V") [] (statement (expression_statement (method_call_of (call_of (codes "ct_B__$3cinit$3e$$V") (expression (new_of (codes "c_B") no_expressions) no_expressions)) (codes "m_m$$V") no_expressions)) (statement (expression_statement (call_of (codes "s_java_lang_Object__hi$$V") no_expressions)) no_statements))

abbrev item_8 : Item
item_8 = object_item (codes "k_A") (record { name = (codes "s"); value = (text_literal (codes "i_A")) } ∷ record { name = (codes "i_A"); value = (number_literal (pos 1)) } ∷ record { name = (codes "i_B"); value = (number_literal (pos 1)) } ∷ record { name = (codes "i_java_lang_Object"); value = (number_literal (pos 1)) } ∷ [])

abbrev item_9 : Item
item_9 = subclass_item (codes "c_A") (codes "c_B") (constructor_of [] (statement super_call (statement (assign_property this_use (codes "k") (name_use (codes "k_A"))) no_statements)) ∷ [])

abbrev item_10 : Item
item_10 = function_item (codes "ct_A__$3cinit$3e$$V") ((codes "$this") ∷ []) (statement (expression_statement (call_of (codes "ct_B__$3cinit$3e$$V") (expression (name_use (codes "$this")) no_expressions))) (statement (return_of (name_use (codes "$this"))) no_statements))

abbrev item_11 : Item
item_11 = function_item (codes "s_A__main$$V") [] (statement (expression_statement (method_call_of (call_of (codes "ct_A__$3cinit$3e$$V") (expression (new_of (codes "c_A") no_expressions) no_expressions)) (codes "m_m$$V") no_expressions)) no_statements)

abbrev item_12 : Item
item_12 = object_item (codes "k_B") (record { name = (codes "s"); value = (text_literal (codes "i_B")) } ∷ record { name = (codes "i_B"); value = (number_literal (pos 1)) } ∷ record { name = (codes "i_java_lang_Object"); value = (number_literal (pos 1)) } ∷ [])

abbrev item_13 : Item
item_13 = subclass_item (codes "c_B") (codes "c_java_lang_Object") (constructor_of [] (statement super_call (statement (assign_property this_use (codes "k") (name_use (codes "k_B"))) no_statements)) ∷ method_of (codes "m_m$$V") [] (statement (return_of (call_of (codes "f_B__m$$V") (expression this_use no_expressions))) no_statements) ∷ [])

abbrev item_14 : Item
item_14 = function_item (codes "ct_B__$3cinit$3e$$V") ((codes "$this") ∷ []) (statement (expression_statement (call_of (codes "ct_java_lang_Object__$3cinit$3e$$V") (expression (name_use (codes "$this")) no_expressions))) (statement (return_of (name_use (codes "$this"))) no_statements))

abbrev item_15 : Item
item_15 = function_item (codes "f_B__m$$V") ((codes "$this") ∷ []) (statement (expression_statement (host_call HostFunction.ConsoleLog (text_literal (codes "B")))) no_statements)

abbrev pub files : Program
files = record { file = (codes "a-b.js"); content = Some (record { imports = (record { names = ((codes "s_C__main$$V") ∷ []); file = (codes "internal-32096c2e0eff33d844ee6d675407ace18289357d.js") } ∷ []); items = (item_0 ∷ []); exports = [] }) } ∷ record { file = (codes "a.js"); content = Some (record { imports = (record { names = ((codes "s_A__main$$V") ∷ []); file = (codes "internal-6dcd4ce23d88e2ee9568ba546c007c63d9131c1b.js") } ∷ []); items = (item_1 ∷ []); exports = [] }) } ∷ record { file = (codes "a0.js"); content = Some (record { imports = (record { names = ((codes "s_A__main$$V") ∷ []); file = (codes "internal-6dcd4ce23d88e2ee9568ba546c007c63d9131c1b.js") } ∷ []); items = (item_2 ∷ []); exports = [] }) } ∷ record { file = (codes "internal-094d8906068ac7be88e0e147ccf87c99193bd385.js"); content = Some (record { imports = []; items = (item_3 ∷ item_4 ∷ item_5 ∷ item_6 ∷ []); exports = ((codes "c_java_lang_Object") ∷ (codes "ct_java_lang_Object__$3cinit$3e$$V") ∷ (codes "s_java_lang_Object__hi$$V") ∷ []) }) } ∷ record { file = (codes "internal-32096c2e0eff33d844ee6d675407ace18289357d.js"); content = Some (record { imports = (record { names = ((codes "s_java_lang_Object__hi$$V") ∷ []); file = (codes "internal-094d8906068ac7be88e0e147ccf87c99193bd385.js") } ∷ record { names = ((codes "c_B") ∷ (codes "ct_B__$3cinit$3e$$V") ∷ []); file = (codes "internal-ae4f281df5a5d0ff3cad6371f76d5c29b6d953ec.js") } ∷ []); items = (item_7 ∷ []); exports = ((codes "s_C__main$$V") ∷ []) }) } ∷ record { file = (codes "internal-6dcd4ce23d88e2ee9568ba546c007c63d9131c1b.js"); content = Some (record { imports = (record { names = ((codes "c_B") ∷ (codes "ct_B__$3cinit$3e$$V") ∷ []); file = (codes "internal-ae4f281df5a5d0ff3cad6371f76d5c29b6d953ec.js") } ∷ []); items = (item_8 ∷ item_9 ∷ item_10 ∷ item_11 ∷ []); exports = ((codes "s_A__main$$V") ∷ []) }) } ∷ record { file = (codes "internal-ae4f281df5a5d0ff3cad6371f76d5c29b6d953ec.js"); content = Some (record { imports = (record { names = ((codes "c_java_lang_Object") ∷ (codes "ct_java_lang_Object__$3cinit$3e$$V") ∷ []); file = (codes "internal-094d8906068ac7be88e0e147ccf87c99193bd385.js") } ∷ []); items = (item_12 ∷ item_13 ∷ item_14 ∷ item_15 ∷ []); exports = ((codes "c_B") ∷ (codes "ct_B__$3cinit$3e$$V") ∷ []) }) } ∷ []
