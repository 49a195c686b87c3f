-- The files that are put for a recorded folder.
use Rattle.std.specs.Prelude.{List, [], ◌∷◌, true, false, pos, negsuc, codes, Some}
use Rattle.js_tree.specs.Terms.{Item, null_literal, boolean_literal, undefined_literal, number_literal, big_literal, text_literal, name_use, this_use, property_of, index_of, call_of, method_call_of, new_of, new_array_of, list_of, binary_of, unary_of, conditional_of, host_call, host_call_of_two, no_expressions, expression, const_of, let_of, declare_of, expression_statement, assign_name, assign_property, assign_index, super_call, throw_of, return_of, break_nearest, break_to, if_only, if_else, while_of, do_forever, labeled_of, try_catch, try_finally, switch_on, no_statements, statement, no_cases, switch_case, constructor_of, method_of, const_item, object_item, let_item, expression_item, function_item, class_item, subclass_item}
use Rattle.js_tree.specs.declared.operators.BinaryOperator.TheVariants as Op
use Rattle.js_tree.specs.declared.operators.HostFunction.TheVariants as HostFunction
use Rattle.js_tree.specs.declared.operators.HostOperation.TheVariants as HostOperation
use Rattle.js_tree.specs.declared.operators.UnaryOperator.TheVariants.{Not, TypeOf}
use Rattle.js_mean.specs.States.{Program}
use Rattle.agree_recorded_folders.specs.Words.{no_units}

abbrev item_0 : Item
item_0 = function_item (codes "s_A__main$$V") [] (statement (expression_statement (call_of (codes "s_java_lang_Object__hi$$V") no_expressions)) no_statements)

abbrev item_1 : Item
item_1 = expression_item (call_of (codes "s_A__main$$V") no_expressions)

abbrev item_2 : Item
item_2 = function_item (codes "s_java_lang_Object__hi$$V") [] (statement (expression_statement (host_call HostFunction.ConsoleLog (text_literal (codes "hi")))) no_statements)

abbrev item_3 : Item
item_3 = function_item (codes "s_B__main$$V") [] (statement (expression_statement (call_of (codes "s_java_lang_Object__hi$$V") no_expressions)) no_statements)

abbrev item_4 : Item
item_4 = expression_item (call_of (codes "s_B__main$$V") no_expressions)

abbrev pub files : Program
files = record { file = (codes "hello.js"); content = Some (record { imports = (record { names = ((codes "s_java_lang_Object__hi$$V") ∷ []); file = (codes "internal-2aae6c35c94fcfb415dbe95f408b9ce91ee846ed.js") } ∷ []); items = (item_0 ∷ item_1 ∷ []); exports = [] }) } ∷ record { file = (codes "internal-2aae6c35c94fcfb415dbe95f408b9ce91ee846ed.js"); content = Some (record { imports = []; items = (item_2 ∷ []); exports = ((codes "s_java_lang_Object__hi$$V") ∷ []) }) } ∷ record { file = (codes "world.js"); content = Some (record { imports = (record { names = ((codes "s_java_lang_Object__hi$$V") ∷ []); file = (codes "internal-2aae6c35c94fcfb415dbe95f408b9ce91ee846ed.js") } ∷ []); items = (item_3 ∷ item_4 ∷ []); exports = [] }) } ∷ []
