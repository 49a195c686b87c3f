-- The files that are put for a recorded folder.
use Rattle.std.specs.Prelude.{List, [], ◌∷◌, true, false, pos, negsuc, codes, Some}
use Rattle.js_tree.specs.Terms.{Item, null_literal, boolean_literal, undefined_literal, number_literal, big_literal, text_literal, name_use, this_use, property_of, index_of, call_of, method_call_of, new_of, new_array_of, list_of, binary_of, unary_of, conditional_of, host_call, host_call_of_two, no_expressions, expression, const_of, let_of, declare_of, expression_statement, assign_name, assign_property, assign_index, super_call, throw_of, return_of, break_nearest, break_to, if_only, if_else, while_of, do_forever, labeled_of, try_catch, try_finally, switch_on, no_statements, statement, no_cases, switch_case, constructor_of, method_of, const_item, object_item, let_item, expression_item, function_item, class_item, subclass_item}
use Rattle.js_tree.specs.declared.operators.BinaryOperator.TheVariants as Op
use Rattle.js_tree.specs.declared.operators.HostFunction.TheVariants as HostFunction
use Rattle.js_tree.specs.declared.operators.HostOperation.TheVariants as HostOperation
use Rattle.js_tree.specs.declared.operators.UnaryOperator.TheVariants.{Not, TypeOf}
use Rattle.js_mean.specs.States.{Program}
use Rattle.agree_recorded_folders.specs.Words.{no_units}

abbrev item_0 : Item
item_0 = function_item (codes "s_java_lang_Object__main$$V") [] (statement (expression_statement (call_of (codes "f_java_lang_Number__m$$V") (expression (number_literal (pos 1)) no_expressions))) (statement (expression_statement (call_of (codes "f_java_lang_Short__m$$V") (expression (number_literal (pos 2)) no_expressions))) (statement (expression_statement (call_of (codes "f_java_lang_Number__m$$V") (expression (number_literal (pos 3)) no_expressions))) (statement (expression_statement (host_call HostFunction.ConsoleLog (binary_of (text_literal no_units) Op.Add (binary_of (text_literal no_units) Op.Add (call_of (codes "f_java_lang_Number__n$$I") (expression (number_literal (pos 1)) no_expressions)))))) (statement (expression_statement (host_call HostFunction.ConsoleLog (binary_of (text_literal no_units) Op.Add (binary_of (text_literal no_units) Op.Add (call_of (codes "s_A__of$$Ljava_lang_Byte$$I") (expression (number_literal (pos 7)) no_expressions)))))) (statement (expression_statement (host_call HostFunction.ConsoleLog (binary_of (text_literal no_units) Op.Add (binary_of (text_literal no_units) Op.Add (call_of (codes "is_J") (expression (number_literal (pos 1)) no_expressions)))))) (statement (expression_statement (host_call HostFunction.ConsoleLog (binary_of (text_literal no_units) Op.Add (binary_of (text_literal no_units) Op.Add (call_of (codes "is_K") (expression (number_literal (pos 1)) no_expressions)))))) no_statements)))))))

abbrev item_1 : Item
item_1 = class_item (codes "$C") (constructor_of ((codes "c") ∷ []) (statement (assign_property this_use (codes "k") (name_use (codes "$kC"))) (statement (assign_property this_use (codes "c") (name_use (codes "c"))) no_statements)) ∷ [])

abbrev item_2 : Item
item_2 = function_item (codes "$eq") ((codes "x") ∷ (codes "y") ∷ []) (statement (return_of (conditional_of (binary_of (binary_of (name_use (codes "x")) Op.InstanceOf (name_use (codes "$C"))) Op.And (binary_of (name_use (codes "y")) Op.InstanceOf (name_use (codes "$C")))) (binary_of (property_of (name_use (codes "x")) (codes "c")) Op.StrictEqual (property_of (name_use (codes "y")) (codes "c"))) (binary_of (name_use (codes "x")) Op.StrictEqual (name_use (codes "y"))))) no_statements)

abbrev item_3 : Item
item_3 = function_item (codes "$isI") ((codes "x") ∷ []) (statement (return_of (binary_of (unary_of TypeOf (name_use (codes "x"))) Op.StrictEqual (text_literal (codes "number")))) no_statements)

abbrev item_4 : Item
item_4 = object_item (codes "$kC") (record { name = (codes "s"); value = (text_literal (codes "i_java_lang_Character")) } ∷ record { name = (codes "i_java_lang_Character"); value = (number_literal (pos 1)) } ∷ record { name = (codes "i_java_lang_Object"); value = (number_literal (pos 1)) } ∷ [])

abbrev item_5 : Item
item_5 = function_item (codes "s_A__of$$Ljava_lang_Byte$$I") ((codes "v_b") ∷ []) (statement (if_else (call_of (codes "$eq") (expression (name_use (codes "v_b")) (expression (number_literal (pos 7)) no_expressions))) (statement (return_of (number_literal (pos 1))) no_statements) (statement (return_of (number_literal (pos 0))) no_statements)) no_statements)

abbrev item_6 : Item
item_6 = function_item (codes "is_J") ((codes "x") ∷ []) (statement (return_of (binary_of (binary_of (name_use (codes "x")) Op.StrictNotEqual null_literal) Op.And (binary_of (binary_of (unary_of TypeOf (name_use (codes "x"))) Op.StrictEqual (text_literal (codes "object"))) Op.And (binary_of (text_literal (codes "i_J")) Op.In (property_of (name_use (codes "x")) (codes "k")))))) no_statements)

abbrev item_7 : Item
item_7 = function_item (codes "is_K") ((codes "x") ∷ []) (statement (return_of (binary_of (binary_of (name_use (codes "x")) Op.StrictNotEqual null_literal) Op.And (binary_of (call_of (codes "$isI") (expression (name_use (codes "x")) no_expressions)) Op.Or (binary_of (binary_of (unary_of TypeOf (name_use (codes "x"))) Op.StrictEqual (text_literal (codes "object"))) Op.And (binary_of (text_literal (codes "i_K")) Op.In (property_of (name_use (codes "x")) (codes "k"))))))) no_statements)

abbrev item_8 : Item
item_8 = function_item (codes "f_java_lang_Number__m$$V") ((codes "$this") ∷ []) (statement (expression_statement (host_call HostFunction.ConsoleLog (text_literal (codes "number")))) no_statements)

abbrev item_9 : Item
item_9 = function_item (codes "f_java_lang_Number__n$$I") ((codes "$this") ∷ []) (statement (return_of (number_literal (pos 3))) no_statements)

abbrev item_10 : Item
item_10 = function_item (codes "f_java_lang_Short__m$$V") ((codes "$this") ∷ []) (statement (expression_statement (host_call HostFunction.ConsoleLog (text_literal (codes "short")))) no_statements)

abbrev item_11 : Item
item_11 = expression_item (call_of (codes "s_java_lang_Object__main$$V") no_expressions)

abbrev pub files : Program
files = record { file = (codes "main.js"); content = Some (record { imports = []; items = (item_0 ∷ item_1 ∷ item_2 ∷ item_3 ∷ item_4 ∷ item_5 ∷ item_6 ∷ item_7 ∷ item_8 ∷ item_9 ∷ item_10 ∷ item_11 ∷ []); exports = [] }) } ∷ []
