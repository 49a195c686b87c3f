-- The files that are put for a recorded folder.
use Rattle.std.specs.Prelude.{List, [], ◌∷◌, true, false, pos, negsuc, codes, Some}
use Rattle.js_tree.specs.Terms.{Item, null_literal, boolean_literal, undefined_literal, number_literal, big_literal, text_literal, name_use, this_use, property_of, index_of, call_of, method_call_of, new_of, new_array_of, list_of, binary_of, unary_of, conditional_of, host_call, host_call_of_two, no_expressions, expression, const_of, let_of, declare_of, expression_statement, assign_name, assign_property, assign_index, super_call, throw_of, return_of, break_nearest, break_to, if_only, if_else, while_of, do_forever, labeled_of, try_catch, try_finally, switch_on, no_statements, statement, no_cases, switch_case, constructor_of, method_of, const_item, object_item, let_item, expression_item, function_item, class_item, subclass_item}
use Rattle.js_tree.specs.declared.operators.BinaryOperator.TheVariants as Op
use Rattle.js_tree.specs.declared.operators.HostFunction.TheVariants as HostFunction
use Rattle.js_tree.specs.declared.operators.HostOperation.TheVariants as HostOperation
use Rattle.js_tree.specs.declared.operators.UnaryOperator.TheVariants.{Not, TypeOf}
use Rattle.js_mean.specs.States.{Program}
use Rattle.agree_recorded_folders.specs.Words.{no_units}

abbrev item_0 : Item
item_0 = function_item (codes "s_java_lang_Object__f$$I") [] (statement (return_of (number_literal (pos 3))) no_statements)

abbrev item_1 : Item
item_1 = function_item (codes "s_java_lang_Object__main$$V") [] (statement (let_of (codes "v_i") (number_literal (pos 0))) (statement (while_of (boolean_literal true) (statement (declare_of (codes "$1")) (statement (expression_statement (host_call HostFunction.ConsoleLog (text_literal (codes "c")))) (statement (assign_name (codes "$1") (binary_of (name_use (codes "v_i")) Op.Less (number_literal (pos 2)))) (statement (if_only (unary_of Not (name_use (codes "$1"))) (statement break_nearest no_statements)) (statement (assign_name (codes "v_i") (binary_of (binary_of (name_use (codes "v_i")) Op.Add (number_literal (pos 1))) Op.BitOr (number_literal (pos 0)))) no_statements)))))) (statement (do_forever (statement (expression_statement (host_call HostFunction.ConsoleLog (text_literal (codes "once")))) (statement (if_only (unary_of Not (boolean_literal false)) (statement break_nearest no_statements)) no_statements))) (statement (switch_on (name_use (codes "v_i")) (switch_case ((pos 1) ∷ (negsuc 0) ∷ []) (statement (expression_statement (host_call HostFunction.ConsoleLog (text_literal (codes "one")))) (statement break_nearest no_statements)) (switch_case ((pos 2) ∷ []) (statement (expression_statement (host_call HostFunction.ConsoleLog (text_literal (codes "two")))) (statement break_nearest no_statements)) no_cases)) (statement (expression_statement (host_call HostFunction.ConsoleLog (text_literal (codes "other")))) no_statements)) (statement (declare_of (codes "$2")) (statement (declare_of (codes "$3")) (statement (const_of (codes "$4") (call_of (codes "s_java_lang_Object__f$$I") no_expressions)) (statement (declare_of (codes "$5")) (statement (expression_statement (host_call HostFunction.ConsoleLog (text_literal (codes "x")))) (statement (assign_name (codes "$5") (number_literal (pos 2))) (statement (assign_name (codes "$3") (host_call_of_two HostOperation.MathImul (name_use (codes "$4")) (name_use (codes "$5")))) (statement (assign_name (codes "$2") (binary_of (text_literal no_units) Op.Add (binary_of (text_literal no_units) Op.Add (name_use (codes "$3"))))) (statement (expression_statement (host_call HostFunction.ConsoleLog (name_use (codes "$2")))) (statement (if_else (boolean_literal true) no_statements (statement (expression_statement (host_call HostFunction.ConsoleLog (text_literal (codes "no")))) no_statements)) no_statements))))))))))))))

abbrev item_2 : Item
item_2 = expression_item (call_of (codes "s_java_lang_Object__main$$V") no_expressions)

abbrev pub files : Program
files = record { file = (codes "main.js"); content = Some (record { imports = []; items = (item_0 ∷ item_1 ∷ item_2 ∷ []); exports = [] }) } ∷ []
