-- The files that are put for a recorded folder.
use Rattle.std.specs.Prelude.{List, [], ◌∷◌, true, false, pos, negsuc, codes, Some}
use Rattle.js_tree.specs.Terms.{Item, null_literal, boolean_literal, undefined_literal, number_literal, big_literal, text_literal, name_use, this_use, property_of, index_of, call_of, method_call_of, new_of, new_array_of, list_of, binary_of, unary_of, conditional_of, host_call, host_call_of_two, no_expressions, expression, const_of, let_of, declare_of, expression_statement, assign_name, assign_property, assign_index, super_call, throw_of, return_of, break_nearest, break_to, if_only, if_else, while_of, do_forever, labeled_of, try_catch, try_finally, switch_on, no_statements, statement, no_cases, switch_case, constructor_of, method_of, const_item, object_item, let_item, expression_item, function_item, class_item, subclass_item}
use Rattle.js_tree.specs.declared.operators.BinaryOperator.TheVariants as Op
use Rattle.js_tree.specs.declared.operators.HostFunction.TheVariants as HostFunction
use Rattle.js_tree.specs.declared.operators.HostOperation.TheVariants as HostOperation
use Rattle.js_tree.specs.declared.operators.UnaryOperator.TheVariants.{Not, TypeOf}
use Rattle.js_mean.specs.States.{Program}
use Rattle.agree_recorded_folders.specs.Words.{no_units}

abbrev item_0 : Item
item_0 = function_item (codes "s_java_lang_Object__$c3$a93$$J$$B$$I$$C") ((codes "v_$5f") ∷ (codes "v_$24this") ∷ (codes "v_x") ∷ []) (statement (if_only (conditional_of (boolean_literal true) (binary_of (number_literal (negsuc 32768)) Op.Greater (name_use (codes "v_x"))) (binary_of (boolean_literal true) Op.StrictNotEqual (boolean_literal true))) (statement (expression_statement (host_call HostFunction.ConsoleLog (text_literal (codes "null")))) (statement (let_of (codes "v_x1") (name_use (codes "v_x"))) no_statements))) (statement (if_only (conditional_of (unary_of Not (boolean_literal false)) (binary_of (big_literal (pos 63)) Op.Greater (name_use (codes "v_$5f"))) (boolean_literal true)) (statement (let_of (codes "v_$5f$24") (number_literal (pos 1))) no_statements)) (statement (return_of (number_literal (pos 34))) no_statements)))

abbrev item_1 : Item
item_1 = function_item (codes "s_Z__main$$V") [] (statement (expression_statement (host_call HostFunction.ConsoleLog (text_literal (codes "main")))) (statement (expression_statement (host_call HostFunction.ConsoleLog (binary_of (text_literal (codes "= ")) Op.Add (host_call HostFunction.StringFromCharCode (call_of (codes "s_java_lang_Object__$c3$a93$$J$$B$$I$$C") (expression (big_literal (pos 63)) (expression (number_literal (pos 1)) (expression (number_literal (pos 0)) no_expressions)))))))) (statement (declare_of (codes "v_a0")) (statement (if_else (boolean_literal false) (statement (labeled_of (codes "l_$c3$a9") (statement (if_only (boolean_literal true) (statement (assign_name (codes "v_a0") (big_literal (pos 4611686018427387904))) (statement (break_to (codes "l_$c3$a9")) no_statements))) (statement (assign_name (codes "v_a0") (binary_of (big_literal (negsuc 0)) Op.BitAnd (big_literal (pos 63)))) (statement (break_to (codes "l_$c3$a9")) no_statements)))) no_statements) (statement (assign_name (codes "v_a0") (binary_of (big_literal (pos 1234567890123456789)) Op.Remainder (big_literal (pos 4611686018427387904)))) no_statements)) (statement (expression_statement (host_call HostFunction.ConsoleLog (text_literal (233 ∷ 55357 ∷ 56832 ∷ [])))) no_statements)))))

abbrev item_2 : Item
item_2 = expression_item (call_of (codes "s_Z__main$$V") no_expressions)

abbrev pub files : Program
files = record { file = (codes "main.js"); content = Some (record { imports = []; items = (item_0 ∷ item_1 ∷ item_2 ∷ []); exports = [] }) } ∷ []
