-- The files that are put for a recorded folder.
use Rattle.std.specs.Prelude.{List, [], ◌∷◌, true, false, pos, negsuc, codes, Some}
use Rattle.js_tree.specs.Terms.{Item, null_literal, boolean_literal, undefined_literal, number_literal, big_literal, text_literal, name_use, this_use, property_of, index_of, call_of, method_call_of, new_of, new_array_of, list_of, binary_of, unary_of, conditional_of, host_call, host_call_of_two, no_expressions, expression, const_of, let_of, declare_of, expression_statement, assign_name, assign_property, assign_index, super_call, throw_of, return_of, break_nearest, break_to, if_only, if_else, while_of, do_forever, labeled_of, try_catch, try_finally, switch_on, no_statements, statement, no_cases, switch_case, constructor_of, method_of, const_item, object_item, let_item, expression_item, function_item, class_item, subclass_item}
use Rattle.js_tree.specs.declared.operators.BinaryOperator.TheVariants as Op
use Rattle.js_tree.specs.declared.operators.HostFunction.TheVariants as HostFunction
use Rattle.js_tree.specs.declared.operators.HostOperation.TheVariants as HostOperation
use Rattle.js_tree.specs.declared.operators.UnaryOperator.TheVariants.{Not, TypeOf}
use Rattle.js_mean.specs.States.{Program}
use Rattle.agree_recorded_folders.specs.Words.{no_units}

abbrev item_0 : Item
item_0 = object_item (codes "k_java_lang_Object") (record { name = (codes "s"); value = (text_literal (codes "i_java_lang_Object")) } ∷ record { name = (codes "i_java_lang_Object"); value = (number_literal (pos 1)) } ∷ [])

abbrev item_1 : Item
item_1 = class_item (codes "c_java_lang_Object") (constructor_of [] (statement (assign_property this_use (codes "k") (name_use (codes "k_java_lang_Object"))) no_statements) ∷ [])

abbrev item_2 : Item
item_2 = function_item (codes "ct_java_lang_Object__$3cinit$3e$$V") ((codes "$this") ∷ []) (statement (return_of (name_use (codes "$this"))) no_statements)

abbrev item_3 : Item
item_3 = function_item (codes "s_java_lang_Object__main$$V") [] (statement (let_of (codes "v_a") (call_of (codes "ct_A__$3cinit$3e$$V") (expression (new_of (codes "c_A") no_expressions) no_expressions))) (statement (assign_property (name_use (codes "v_a")) (codes "f_A__b") (number_literal (pos 4))) (statement (expression_statement (host_call HostFunction.ConsoleLog (binary_of (text_literal no_units) Op.Add (binary_of (text_literal no_units) Op.Add (property_of (name_use (codes "v_a")) (codes "f_A__b")))))) (statement (expression_statement (call_of (codes "u_T__z") (expression (property_of (name_use (codes "v_a")) (codes "f_A__z")) no_expressions))) (statement (expression_statement (call_of (codes "u_T__$5f") (expression (property_of (name_use (codes "v_a")) (codes "f_A__$5f")) no_expressions))) (statement (expression_statement (call_of (codes "u_T__a") (expression (property_of (name_use (codes "v_a")) (codes "f_A__a")) no_expressions))) (statement (expression_statement (call_of (codes "u_T__A") (expression (property_of (name_use (codes "v_a")) (codes "f_A__A")) no_expressions))) (statement (expression_statement (call_of (codes "u_T__$c3$a9") (expression (property_of (name_use (codes "v_a")) (codes "f_A__$c3$a9")) no_expressions))) (statement (expression_statement (call_of (codes "u_T__a$5f") (expression (property_of (name_use (codes "v_a")) (codes "f_A__a$5f")) no_expressions))) (statement (expression_statement (call_of (codes "u_T__b") (expression (property_of (name_use (codes "v_a")) (codes "f_A__b")) no_expressions))) (statement (expression_statement (call_of (codes "u_T__c") (expression (property_of (name_use (codes "v_a")) (codes "f_A__c")) no_expressions))) (statement (expression_statement (call_of (codes "u_T__d") (expression (property_of (name_use (codes "v_a")) (codes "f_A__d")) no_expressions))) (statement (expression_statement (call_of (codes "u_T__x$2dy") (expression (property_of (name_use (codes "v_a")) (codes "f_A__x$2dy")) no_expressions))) (statement (expression_statement (call_of (codes "u_T__k") (expression (property_of (name_use (codes "v_a")) (codes "f_A__k")) no_expressions))) (statement (expression_statement (call_of (codes "u_T__$24") (expression (property_of (name_use (codes "v_a")) (codes "f_A__$24")) no_expressions))) no_statements)))))))))))))))

abbrev item_4 : Item
item_4 = object_item (codes "k_A") (record { name = (codes "s"); value = (text_literal (codes "i_A")) } ∷ record { name = (codes "i_A"); value = (number_literal (pos 1)) } ∷ record { name = (codes "i_java_lang_Object"); value = (number_literal (pos 1)) } ∷ [])

abbrev item_5 : Item
item_5 = subclass_item (codes "c_A") (codes "c_java_lang_Object") (constructor_of [] (statement super_call (statement (assign_property this_use (codes "k") (name_use (codes "k_A"))) (statement (assign_property this_use (codes "f_A__$24") null_literal) (statement (assign_property this_use (codes "f_A__A") (number_literal (pos 0))) (statement (assign_property this_use (codes "f_A__$5f") undefined_literal) (statement (assign_property this_use (codes "f_A__a") (boolean_literal false)) (statement (assign_property this_use (codes "f_A__a$5f") (number_literal (pos 0))) (statement (assign_property this_use (codes "f_A__b") (number_literal (pos 0))) (statement (assign_property this_use (codes "f_A__c") (big_literal (pos 0))) (statement (assign_property this_use (codes "f_A__d") (text_literal no_units)) (statement (assign_property this_use (codes "f_A__k") null_literal) (statement (assign_property this_use (codes "f_A__x$2dy") null_literal) (statement (assign_property this_use (codes "f_A__z") null_literal) (statement (assign_property this_use (codes "f_A__$c3$a9") (number_literal (pos 0))) no_statements)))))))))))))) ∷ [])

abbrev item_6 : Item
item_6 = function_item (codes "ct_A__$3cinit$3e$$V") ((codes "$this") ∷ []) (statement (expression_statement (call_of (codes "ct_java_lang_Object__$3cinit$3e$$V") (expression (name_use (codes "$this")) no_expressions))) (statement (assign_property (name_use (codes "$this")) (codes "f_A__c") (big_literal (pos 1))) (statement (return_of (name_use (codes "$this"))) no_statements)))

abbrev item_7 : Item
item_7 = let_item (codes "t_T__$24") null_literal

abbrev item_8 : Item
item_8 = function_item (codes "u_T__$24") ((codes "x") ∷ []) (statement (assign_name (codes "t_T__$24") (name_use (codes "x"))) no_statements)

abbrev item_9 : Item
item_9 = let_item (codes "t_T__A") (number_literal (pos 0))

abbrev item_10 : Item
item_10 = function_item (codes "u_T__A") ((codes "x") ∷ []) (statement (assign_name (codes "t_T__A") (name_use (codes "x"))) no_statements)

abbrev item_11 : Item
item_11 = let_item (codes "t_T__$5f") undefined_literal

abbrev item_12 : Item
item_12 = function_item (codes "u_T__$5f") ((codes "x") ∷ []) (statement (assign_name (codes "t_T__$5f") (name_use (codes "x"))) no_statements)

abbrev item_13 : Item
item_13 = let_item (codes "t_T__a") (boolean_literal false)

abbrev item_14 : Item
item_14 = function_item (codes "u_T__a") ((codes "x") ∷ []) (statement (assign_name (codes "t_T__a") (name_use (codes "x"))) no_statements)

abbrev item_15 : Item
item_15 = let_item (codes "t_T__a$5f") (number_literal (pos 0))

abbrev item_16 : Item
item_16 = function_item (codes "u_T__a$5f") ((codes "x") ∷ []) (statement (assign_name (codes "t_T__a$5f") (name_use (codes "x"))) no_statements)

abbrev item_17 : Item
item_17 = let_item (codes "t_T__b") (number_literal (pos 0))

abbrev item_18 : Item
item_18 = function_item (codes "u_T__b") ((codes "x") ∷ []) (statement (assign_name (codes "t_T__b") (name_use (codes "x"))) no_statements)

abbrev item_19 : Item
item_19 = let_item (codes "t_T__c") (big_literal (pos 0))

abbrev item_20 : Item
item_20 = function_item (codes "u_T__c") ((codes "x") ∷ []) (statement (assign_name (codes "t_T__c") (name_use (codes "x"))) no_statements)

abbrev item_21 : Item
item_21 = let_item (codes "t_T__d") (text_literal no_units)

abbrev item_22 : Item
item_22 = function_item (codes "u_T__d") ((codes "x") ∷ []) (statement (assign_name (codes "t_T__d") (name_use (codes "x"))) no_statements)

abbrev item_23 : Item
item_23 = let_item (codes "t_T__k") null_literal

abbrev item_24 : Item
item_24 = function_item (codes "u_T__k") ((codes "x") ∷ []) (statement (assign_name (codes "t_T__k") (name_use (codes "x"))) no_statements)

abbrev item_25 : Item
item_25 = let_item (codes "t_T__x$2dy") null_literal

abbrev item_26 : Item
item_26 = function_item (codes "u_T__x$2dy") ((codes "x") ∷ []) (statement (assign_name (codes "t_T__x$2dy") (name_use (codes "x"))) no_statements)

abbrev item_27 : Item
item_27 = let_item (codes "t_T__z") null_literal

abbrev item_28 : Item
item_28 = function_item (codes "u_T__z") ((codes "x") ∷ []) (statement (assign_name (codes "t_T__z") (name_use (codes "x"))) no_statements)

abbrev item_29 : Item
item_29 = let_item (codes "t_T__$c3$a9") (number_literal (pos 0))

abbrev item_30 : Item
item_30 = function_item (codes "u_T__$c3$a9") ((codes "x") ∷ []) (statement (assign_name (codes "t_T__$c3$a9") (name_use (codes "x"))) no_statements)

abbrev item_31 : Item
item_31 = expression_item (call_of (codes "s_java_lang_Object__main$$V") no_expressions)

abbrev pub files : Program
files = record { file = (codes "main.js"); content = Some (record { imports = []; items = (item_0 ∷ item_1 ∷ item_2 ∷ item_3 ∷ item_4 ∷ item_5 ∷ item_6 ∷ item_7 ∷ item_8 ∷ item_9 ∷ item_10 ∷ item_11 ∷ item_12 ∷ item_13 ∷ item_14 ∷ item_15 ∷ item_16 ∷ item_17 ∷ item_18 ∷ item_19 ∷ item_20 ∷ item_21 ∷ item_22 ∷ item_23 ∷ item_24 ∷ item_25 ∷ item_26 ∷ item_27 ∷ item_28 ∷ item_29 ∷ item_30 ∷ item_31 ∷ []); exports = [] }) } ∷ []
