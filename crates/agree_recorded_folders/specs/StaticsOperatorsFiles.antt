-- The files that are put for a recorded folder.
use Rattle.std.specs.Prelude.{List, [], ◌∷◌, true, false, pos, negsuc, codes, Some}
use Rattle.js_tree.specs.Terms.{Item, null_literal, boolean_literal, undefined_literal, number_literal, big_literal, text_literal, name_use, this_use, property_of, index_of, call_of, method_call_of, new_of, new_array_of, list_of, binary_of, unary_of, conditional_of, host_call, host_call_of_two, no_expressions, expression, const_of, let_of, declare_of, expression_statement, assign_name, assign_property, assign_index, super_call, throw_of, return_of, break_nearest, break_to, if_only, if_else, while_of, do_forever, labeled_of, try_catch, try_finally, switch_on, no_statements, statement, no_cases, switch_case, constructor_of, method_of, const_item, object_item, let_item, expression_item, function_item, class_item, subclass_item}
use Rattle.js_tree.specs.declared.operators.BinaryOperator.TheVariants as Op
use Rattle.js_tree.specs.declared.operators.HostFunction.TheVariants as HostFunction
use Rattle.js_tree.specs.declared.operators.HostOperation.TheVariants as HostOperation
use Rattle.js_tree.specs.declared.operators.UnaryOperator.TheVariants.{Not, TypeOf}
use Rattle.js_mean.specs.States.{Program}
use Rattle.agree_recorded_folders.specs.Words.{no_units}

abbrev item_0 : Item
item_0 = function_item (codes "s_java_lang_Object__bools$$Z$$Z$$V") ((codes "v_a") ∷ (codes "v_b") ∷ []) (statement (expression_statement (host_call HostFunction.ConsoleLog (binary_of (text_literal (codes "4 ")) Op.Add (binary_of (text_literal no_units) Op.Add (binary_of (name_use (codes "v_a")) Op.StrictEqual (name_use (codes "v_b"))))))) (statement (expression_statement (host_call HostFunction.ConsoleLog (binary_of (text_literal (codes "5 ")) Op.Add (binary_of (text_literal no_units) Op.Add (binary_of (name_use (codes "v_a")) Op.StrictNotEqual (name_use (codes "v_b"))))))) (statement (expression_statement (host_call HostFunction.ConsoleLog (binary_of (text_literal (codes "6 ")) Op.Add (binary_of (text_literal no_units) Op.Add (unary_of Not (unary_of Not (binary_of (name_use (codes "v_a")) Op.BitOr (name_use (codes "v_b"))))))))) (statement (expression_statement (host_call HostFunction.ConsoleLog (binary_of (text_literal (codes "7 ")) Op.Add (binary_of (text_literal no_units) Op.Add (unary_of Not (unary_of Not (binary_of (name_use (codes "v_a")) Op.BitAnd (name_use (codes "v_b"))))))))) (statement (expression_statement (host_call HostFunction.ConsoleLog (binary_of (text_literal (codes "1 ")) Op.Add (binary_of (text_literal no_units) Op.Add (unary_of Not (name_use (codes "v_a"))))))) no_statements)))))

abbrev item_1 : Item
item_1 = function_item (codes "s_java_lang_Object__conv$$I$$V") ((codes "v_a") ∷ []) (statement (expression_statement (host_call HostFunction.ConsoleLog (binary_of (text_literal (codes "u5 ")) Op.Add (binary_of (text_literal no_units) Op.Add (host_call HostFunction.BigInt (name_use (codes "v_a"))))))) (statement (expression_statement (host_call HostFunction.ConsoleLog (binary_of (text_literal (codes "u6 ")) Op.Add (host_call HostFunction.StringFromCharCode (binary_of (name_use (codes "v_a")) Op.BitAnd (number_literal (pos 65535))))))) (statement (expression_statement (host_call HostFunction.ConsoleLog (binary_of (text_literal (codes "u7 ")) Op.Add (binary_of (text_literal no_units) Op.Add (binary_of (binary_of (name_use (codes "v_a")) Op.ShiftLeft (number_literal (pos 24))) Op.ShiftRight (number_literal (pos 24))))))) (statement (expression_statement (host_call HostFunction.ConsoleLog (binary_of (text_literal (codes "u8 ")) Op.Add (binary_of (text_literal no_units) Op.Add (binary_of (binary_of (name_use (codes "v_a")) Op.ShiftLeft (number_literal (pos 16))) Op.ShiftRight (number_literal (pos 16))))))) (statement (expression_statement (host_call HostFunction.ConsoleLog (binary_of (text_literal (codes "u2 ")) Op.Add (binary_of (text_literal no_units) Op.Add (binary_of (name_use (codes "v_a")) Op.BitAnd (number_literal (pos 65535))))))) (statement (expression_statement (host_call HostFunction.ConsoleLog (binary_of (text_literal (codes "u3 ")) Op.Add (binary_of (text_literal no_units) Op.Add (binary_of (binary_of (name_use (codes "v_a")) Op.ShiftLeft (number_literal (pos 24))) Op.ShiftRight (number_literal (pos 24))))))) (statement (expression_statement (host_call HostFunction.ConsoleLog (binary_of (text_literal (codes "u4 ")) Op.Add (binary_of (text_literal no_units) Op.Add (binary_of (binary_of (name_use (codes "v_a")) Op.ShiftLeft (number_literal (pos 16))) Op.ShiftRight (number_literal (pos 16))))))) (statement (expression_statement (host_call HostFunction.ConsoleLog (binary_of (text_literal (codes "u9 ")) Op.Add (binary_of (text_literal no_units) Op.Add (host_call HostFunction.Number (host_call_of_two HostOperation.BigIntAsIntN (number_literal (pos 32)) (host_call HostFunction.BigInt (name_use (codes "v_a"))))))))) no_statements))))))))

abbrev item_2 : Item
item_2 = function_item (codes "s_java_lang_Object__folds$$V") [] (statement (expression_statement (host_call HostFunction.ConsoleLog (binary_of (text_literal (codes "f8 ")) Op.Add (binary_of (text_literal no_units) Op.Add (binary_of (binary_of (number_literal (negsuc 6)) Op.Add (number_literal (pos 3))) Op.BitOr (number_literal (pos 0))))))) (statement (expression_statement (host_call HostFunction.ConsoleLog (binary_of (text_literal (codes "f9 ")) Op.Add (binary_of (text_literal no_units) Op.Add (binary_of (binary_of (number_literal (negsuc 6)) Op.Subtract (number_literal (pos 3))) Op.BitOr (number_literal (pos 0))))))) (statement (expression_statement (host_call HostFunction.ConsoleLog (binary_of (text_literal (codes "f10 ")) Op.Add (binary_of (text_literal no_units) Op.Add (host_call_of_two HostOperation.MathImul (number_literal (negsuc 6)) (number_literal (pos 3))))))) (statement (expression_statement (host_call HostFunction.ConsoleLog (binary_of (text_literal (codes "f11 ")) Op.Add (binary_of (text_literal no_units) Op.Add (binary_of (binary_of (number_literal (negsuc 6)) Op.Divide (number_literal (pos 3))) Op.BitOr (number_literal (pos 0))))))) (statement (expression_statement (host_call HostFunction.ConsoleLog (binary_of (text_literal (codes "f12 ")) Op.Add (binary_of (text_literal no_units) Op.Add (binary_of (binary_of (number_literal (negsuc 6)) Op.Remainder (number_literal (pos 3))) Op.BitOr (number_literal (pos 0))))))) (statement (expression_statement (host_call HostFunction.ConsoleLog (binary_of (text_literal (codes "f13 ")) Op.Add (binary_of (text_literal no_units) Op.Add (binary_of (number_literal (negsuc 6)) Op.BitOr (number_literal (pos 3))))))) (statement (expression_statement (host_call HostFunction.ConsoleLog (binary_of (text_literal (codes "f14 ")) Op.Add (binary_of (text_literal no_units) Op.Add (binary_of (number_literal (negsuc 6)) Op.BitAnd (number_literal (pos 3))))))) (statement (expression_statement (host_call HostFunction.ConsoleLog (binary_of (text_literal (codes "f15 ")) Op.Add (binary_of (text_literal no_units) Op.Add (binary_of (number_literal (negsuc 6)) Op.BitXor (number_literal (pos 3))))))) (statement (expression_statement (host_call HostFunction.ConsoleLog (binary_of (text_literal (codes "f16 ")) Op.Add (binary_of (text_literal no_units) Op.Add (binary_of (number_literal (negsuc 6)) Op.ShiftLeft (number_literal (pos 3))))))) (statement (expression_statement (host_call HostFunction.ConsoleLog (binary_of (text_literal (codes "f17 ")) Op.Add (binary_of (text_literal no_units) Op.Add (binary_of (binary_of (number_literal (negsuc 6)) Op.ShiftRightUnsigned (number_literal (pos 3))) Op.BitOr (number_literal (pos 0))))))) (statement (expression_statement (host_call HostFunction.ConsoleLog (binary_of (text_literal (codes "f18 ")) Op.Add (binary_of (text_literal no_units) Op.Add (binary_of (number_literal (negsuc 6)) Op.ShiftRight (number_literal (pos 3))))))) (statement (expression_statement (host_call HostFunction.ConsoleLog (binary_of (text_literal (codes "f19 ")) Op.Add (binary_of (text_literal no_units) Op.Add (binary_of (number_literal (negsuc 6)) Op.StrictEqual (number_literal (pos 3))))))) (statement (expression_statement (host_call HostFunction.ConsoleLog (binary_of (text_literal (codes "f20 ")) Op.Add (binary_of (text_literal no_units) Op.Add (binary_of (number_literal (negsuc 6)) Op.StrictNotEqual (number_literal (pos 3))))))) (statement (expression_statement (host_call HostFunction.ConsoleLog (binary_of (text_literal (codes "f21 ")) Op.Add (binary_of (text_literal no_units) Op.Add (binary_of (number_literal (negsuc 6)) Op.Less (number_literal (pos 3))))))) (statement (expression_statement (host_call HostFunction.ConsoleLog (binary_of (text_literal (codes "f22 ")) Op.Add (binary_of (text_literal no_units) Op.Add (binary_of (number_literal (negsuc 6)) Op.LessOrEqual (number_literal (pos 3))))))) (statement (expression_statement (host_call HostFunction.ConsoleLog (binary_of (text_literal (codes "f23 ")) Op.Add (binary_of (text_literal no_units) Op.Add (binary_of (number_literal (negsuc 6)) Op.Greater (number_literal (pos 3))))))) (statement (expression_statement (host_call HostFunction.ConsoleLog (binary_of (text_literal (codes "f24 ")) Op.Add (binary_of (text_literal no_units) Op.Add (binary_of (number_literal (negsuc 6)) Op.GreaterOrEqual (number_literal (pos 3))))))) (statement (expression_statement (host_call HostFunction.ConsoleLog (binary_of (text_literal (codes "f25 ")) Op.Add (binary_of (text_literal no_units) Op.Add (host_call_of_two HostOperation.BigIntAsIntN (number_literal (pos 64)) (binary_of (big_literal (negsuc 6)) Op.Add (big_literal (pos 3)))))))) (statement (expression_statement (host_call HostFunction.ConsoleLog (binary_of (text_literal (codes "f26 ")) Op.Add (binary_of (text_literal no_units) Op.Add (host_call_of_two HostOperation.BigIntAsIntN (number_literal (pos 64)) (binary_of (big_literal (negsuc 6)) Op.Subtract (big_literal (pos 3)))))))) (statement (expression_statement (host_call HostFunction.ConsoleLog (binary_of (text_literal (codes "f27 ")) Op.Add (binary_of (text_literal no_units) Op.Add (host_call_of_two HostOperation.BigIntAsIntN (number_literal (pos 64)) (binary_of (big_literal (negsuc 6)) Op.Multiply (big_literal (pos 3)))))))) (statement (expression_statement (host_call HostFunction.ConsoleLog (binary_of (text_literal (codes "f28 ")) Op.Add (binary_of (text_literal no_units) Op.Add (host_call_of_two HostOperation.BigIntAsIntN (number_literal (pos 64)) (binary_of (big_literal (negsuc 6)) Op.Divide (big_literal (pos 3)))))))) (statement (expression_statement (host_call HostFunction.ConsoleLog (binary_of (text_literal (codes "f29 ")) Op.Add (binary_of (text_literal no_units) Op.Add (binary_of (big_literal (negsuc 6)) Op.Remainder (big_literal (pos 3))))))) (statement (expression_statement (host_call HostFunction.ConsoleLog (binary_of (text_literal (codes "f30 ")) Op.Add (binary_of (text_literal no_units) Op.Add (binary_of (big_literal (negsuc 6)) Op.BitOr (big_literal (pos 3))))))) (statement (expression_statement (host_call HostFunction.ConsoleLog (binary_of (text_literal (codes "f31 ")) Op.Add (binary_of (text_literal no_units) Op.Add (binary_of (big_literal (negsuc 6)) Op.BitAnd (big_literal (pos 3))))))) (statement (expression_statement (host_call HostFunction.ConsoleLog (binary_of (text_literal (codes "f32 ")) Op.Add (binary_of (text_literal no_units) Op.Add (binary_of (big_literal (negsuc 6)) Op.BitXor (big_literal (pos 3))))))) (statement (expression_statement (host_call HostFunction.ConsoleLog (binary_of (text_literal (codes "f33 ")) Op.Add (binary_of (text_literal no_units) Op.Add (host_call_of_two HostOperation.BigIntAsIntN (number_literal (pos 64)) (binary_of (big_literal (negsuc 6)) Op.ShiftLeft (host_call HostFunction.BigInt (binary_of (number_literal (pos 3)) Op.BitAnd (number_literal (pos 63)))))))))) (statement (expression_statement (host_call HostFunction.ConsoleLog (binary_of (text_literal (codes "f34 ")) Op.Add (binary_of (text_literal no_units) Op.Add (host_call_of_two HostOperation.BigIntAsIntN (number_literal (pos 64)) (binary_of (host_call_of_two HostOperation.BigIntAsUintN (number_literal (pos 64)) (big_literal (negsuc 6))) Op.ShiftRight (host_call HostFunction.BigInt (binary_of (number_literal (pos 3)) Op.BitAnd (number_literal (pos 63)))))))))) (statement (expression_statement (host_call HostFunction.ConsoleLog (binary_of (text_literal (codes "f35 ")) Op.Add (binary_of (text_literal no_units) Op.Add (binary_of (big_literal (negsuc 6)) Op.ShiftRight (host_call HostFunction.BigInt (binary_of (number_literal (pos 3)) Op.BitAnd (number_literal (pos 63))))))))) (statement (expression_statement (host_call HostFunction.ConsoleLog (binary_of (text_literal (codes "f36 ")) Op.Add (binary_of (text_literal no_units) Op.Add (binary_of (big_literal (negsuc 6)) Op.StrictEqual (big_literal (pos 3))))))) (statement (expression_statement (host_call HostFunction.ConsoleLog (binary_of (text_literal (codes "f37 ")) Op.Add (binary_of (text_literal no_units) Op.Add (binary_of (big_literal (negsuc 6)) Op.StrictNotEqual (big_literal (pos 3))))))) (statement (expression_statement (host_call HostFunction.ConsoleLog (binary_of (text_literal (codes "f38 ")) Op.Add (binary_of (text_literal no_units) Op.Add (binary_of (big_literal (negsuc 6)) Op.Less (big_literal (pos 3))))))) (statement (expression_statement (host_call HostFunction.ConsoleLog (binary_of (text_literal (codes "f39 ")) Op.Add (binary_of (text_literal no_units) Op.Add (binary_of (big_literal (negsuc 6)) Op.LessOrEqual (big_literal (pos 3))))))) (statement (expression_statement (host_call HostFunction.ConsoleLog (binary_of (text_literal (codes "f40 ")) Op.Add (binary_of (text_literal no_units) Op.Add (binary_of (big_literal (negsuc 6)) Op.Greater (big_literal (pos 3))))))) (statement (expression_statement (host_call HostFunction.ConsoleLog (binary_of (text_literal (codes "f41 ")) Op.Add (binary_of (text_literal no_units) Op.Add (binary_of (big_literal (negsuc 6)) Op.GreaterOrEqual (big_literal (pos 3))))))) (statement (expression_statement (host_call HostFunction.ConsoleLog (binary_of (text_literal (codes "f4 ")) Op.Add (binary_of (text_literal no_units) Op.Add (binary_of (boolean_literal true) Op.StrictEqual (boolean_literal false)))))) (statement (expression_statement (host_call HostFunction.ConsoleLog (binary_of (text_literal (codes "f5 ")) Op.Add (binary_of (text_literal no_units) Op.Add (binary_of (boolean_literal true) Op.StrictNotEqual (boolean_literal false)))))) (statement (expression_statement (host_call HostFunction.ConsoleLog (binary_of (text_literal (codes "f6 ")) Op.Add (binary_of (text_literal no_units) Op.Add (unary_of Not (unary_of Not (binary_of (boolean_literal true) Op.BitOr (boolean_literal false)))))))) (statement (expression_statement (host_call HostFunction.ConsoleLog (binary_of (text_literal (codes "f7 ")) Op.Add (binary_of (text_literal no_units) Op.Add (unary_of Not (unary_of Not (binary_of (boolean_literal true) Op.BitAnd (boolean_literal false)))))))) no_statements))))))))))))))))))))))))))))))))))))))

abbrev item_3 : Item
item_3 = function_item (codes "s_java_lang_Object__ints$$I$$I$$V") ((codes "v_a") ∷ (codes "v_b") ∷ []) (statement (expression_statement (host_call HostFunction.ConsoleLog (binary_of (text_literal (codes "8 ")) Op.Add (binary_of (text_literal no_units) Op.Add (binary_of (binary_of (name_use (codes "v_a")) Op.Add (name_use (codes "v_b"))) Op.BitOr (number_literal (pos 0))))))) (statement (expression_statement (host_call HostFunction.ConsoleLog (binary_of (text_literal (codes "9 ")) Op.Add (binary_of (text_literal no_units) Op.Add (binary_of (binary_of (name_use (codes "v_a")) Op.Subtract (name_use (codes "v_b"))) Op.BitOr (number_literal (pos 0))))))) (statement (expression_statement (host_call HostFunction.ConsoleLog (binary_of (text_literal (codes "10 ")) Op.Add (binary_of (text_literal no_units) Op.Add (host_call_of_two HostOperation.MathImul (name_use (codes "v_a")) (name_use (codes "v_b"))))))) (statement (expression_statement (host_call HostFunction.ConsoleLog (binary_of (text_literal (codes "13 ")) Op.Add (binary_of (text_literal no_units) Op.Add (binary_of (name_use (codes "v_a")) Op.BitOr (name_use (codes "v_b"))))))) (statement (expression_statement (host_call HostFunction.ConsoleLog (binary_of (text_literal (codes "14 ")) Op.Add (binary_of (text_literal no_units) Op.Add (binary_of (name_use (codes "v_a")) Op.BitAnd (name_use (codes "v_b"))))))) (statement (expression_statement (host_call HostFunction.ConsoleLog (binary_of (text_literal (codes "15 ")) Op.Add (binary_of (text_literal no_units) Op.Add (binary_of (name_use (codes "v_a")) Op.BitXor (name_use (codes "v_b"))))))) (statement (expression_statement (host_call HostFunction.ConsoleLog (binary_of (text_literal (codes "16 ")) Op.Add (binary_of (text_literal no_units) Op.Add (binary_of (name_use (codes "v_a")) Op.ShiftLeft (name_use (codes "v_b"))))))) (statement (expression_statement (host_call HostFunction.ConsoleLog (binary_of (text_literal (codes "17 ")) Op.Add (binary_of (text_literal no_units) Op.Add (binary_of (binary_of (name_use (codes "v_a")) Op.ShiftRightUnsigned (name_use (codes "v_b"))) Op.BitOr (number_literal (pos 0))))))) (statement (expression_statement (host_call HostFunction.ConsoleLog (binary_of (text_literal (codes "18 ")) Op.Add (binary_of (text_literal no_units) Op.Add (binary_of (name_use (codes "v_a")) Op.ShiftRight (name_use (codes "v_b"))))))) (statement (expression_statement (host_call HostFunction.ConsoleLog (binary_of (text_literal (codes "19 ")) Op.Add (binary_of (text_literal no_units) Op.Add (binary_of (name_use (codes "v_a")) Op.StrictEqual (name_use (codes "v_b"))))))) (statement (expression_statement (host_call HostFunction.ConsoleLog (binary_of (text_literal (codes "20 ")) Op.Add (binary_of (text_literal no_units) Op.Add (binary_of (name_use (codes "v_a")) Op.StrictNotEqual (name_use (codes "v_b"))))))) (statement (expression_statement (host_call HostFunction.ConsoleLog (binary_of (text_literal (codes "21 ")) Op.Add (binary_of (text_literal no_units) Op.Add (binary_of (name_use (codes "v_a")) Op.Less (name_use (codes "v_b"))))))) (statement (expression_statement (host_call HostFunction.ConsoleLog (binary_of (text_literal (codes "22 ")) Op.Add (binary_of (text_literal no_units) Op.Add (binary_of (name_use (codes "v_a")) Op.LessOrEqual (name_use (codes "v_b"))))))) (statement (expression_statement (host_call HostFunction.ConsoleLog (binary_of (text_literal (codes "23 ")) Op.Add (binary_of (text_literal no_units) Op.Add (binary_of (name_use (codes "v_a")) Op.Greater (name_use (codes "v_b"))))))) (statement (expression_statement (host_call HostFunction.ConsoleLog (binary_of (text_literal (codes "24 ")) Op.Add (binary_of (text_literal no_units) Op.Add (binary_of (name_use (codes "v_a")) Op.GreaterOrEqual (name_use (codes "v_b"))))))) no_statements)))))))))))))))

abbrev item_4 : Item
item_4 = function_item (codes "s_java_lang_Object__longs$$J$$J$$V") ((codes "v_a") ∷ (codes "v_b") ∷ []) (statement (expression_statement (host_call HostFunction.ConsoleLog (binary_of (text_literal (codes "25 ")) Op.Add (binary_of (text_literal no_units) Op.Add (host_call_of_two HostOperation.BigIntAsIntN (number_literal (pos 64)) (binary_of (name_use (codes "v_a")) Op.Add (name_use (codes "v_b")))))))) (statement (expression_statement (host_call HostFunction.ConsoleLog (binary_of (text_literal (codes "26 ")) Op.Add (binary_of (text_literal no_units) Op.Add (host_call_of_two HostOperation.BigIntAsIntN (number_literal (pos 64)) (binary_of (name_use (codes "v_a")) Op.Subtract (name_use (codes "v_b")))))))) (statement (expression_statement (host_call HostFunction.ConsoleLog (binary_of (text_literal (codes "27 ")) Op.Add (binary_of (text_literal no_units) Op.Add (host_call_of_two HostOperation.BigIntAsIntN (number_literal (pos 64)) (binary_of (name_use (codes "v_a")) Op.Multiply (name_use (codes "v_b")))))))) (statement (expression_statement (host_call HostFunction.ConsoleLog (binary_of (text_literal (codes "30 ")) Op.Add (binary_of (text_literal no_units) Op.Add (binary_of (name_use (codes "v_a")) Op.BitOr (name_use (codes "v_b"))))))) (statement (expression_statement (host_call HostFunction.ConsoleLog (binary_of (text_literal (codes "31 ")) Op.Add (binary_of (text_literal no_units) Op.Add (binary_of (name_use (codes "v_a")) Op.BitAnd (name_use (codes "v_b"))))))) (statement (expression_statement (host_call HostFunction.ConsoleLog (binary_of (text_literal (codes "32 ")) Op.Add (binary_of (text_literal no_units) Op.Add (binary_of (name_use (codes "v_a")) Op.BitXor (name_use (codes "v_b"))))))) (statement (expression_statement (host_call HostFunction.ConsoleLog (binary_of (text_literal (codes "33 ")) Op.Add (binary_of (text_literal no_units) Op.Add (host_call_of_two HostOperation.BigIntAsIntN (number_literal (pos 64)) (binary_of (name_use (codes "v_a")) Op.ShiftLeft (host_call HostFunction.BigInt (binary_of (host_call HostFunction.Number (host_call_of_two HostOperation.BigIntAsIntN (number_literal (pos 32)) (name_use (codes "v_b")))) Op.BitAnd (number_literal (pos 63)))))))))) (statement (expression_statement (host_call HostFunction.ConsoleLog (binary_of (text_literal (codes "34 ")) Op.Add (binary_of (text_literal no_units) Op.Add (host_call_of_two HostOperation.BigIntAsIntN (number_literal (pos 64)) (binary_of (host_call_of_two HostOperation.BigIntAsUintN (number_literal (pos 64)) (name_use (codes "v_a"))) Op.ShiftRight (host_call HostFunction.BigInt (binary_of (host_call HostFunction.Number (host_call_of_two HostOperation.BigIntAsIntN (number_literal (pos 32)) (name_use (codes "v_b")))) Op.BitAnd (number_literal (pos 63)))))))))) (statement (expression_statement (host_call HostFunction.ConsoleLog (binary_of (text_literal (codes "35 ")) Op.Add (binary_of (text_literal no_units) Op.Add (binary_of (name_use (codes "v_a")) Op.ShiftRight (host_call HostFunction.BigInt (binary_of (host_call HostFunction.Number (host_call_of_two HostOperation.BigIntAsIntN (number_literal (pos 32)) (name_use (codes "v_b")))) Op.BitAnd (number_literal (pos 63))))))))) (statement (expression_statement (host_call HostFunction.ConsoleLog (binary_of (text_literal (codes "36 ")) Op.Add (binary_of (text_literal no_units) Op.Add (binary_of (name_use (codes "v_a")) Op.StrictEqual (name_use (codes "v_b"))))))) (statement (expression_statement (host_call HostFunction.ConsoleLog (binary_of (text_literal (codes "37 ")) Op.Add (binary_of (text_literal no_units) Op.Add (binary_of (name_use (codes "v_a")) Op.StrictNotEqual (name_use (codes "v_b"))))))) (statement (expression_statement (host_call HostFunction.ConsoleLog (binary_of (text_literal (codes "38 ")) Op.Add (binary_of (text_literal no_units) Op.Add (binary_of (name_use (codes "v_a")) Op.Less (name_use (codes "v_b"))))))) (statement (expression_statement (host_call HostFunction.ConsoleLog (binary_of (text_literal (codes "39 ")) Op.Add (binary_of (text_literal no_units) Op.Add (binary_of (name_use (codes "v_a")) Op.LessOrEqual (name_use (codes "v_b"))))))) (statement (expression_statement (host_call HostFunction.ConsoleLog (binary_of (text_literal (codes "40 ")) Op.Add (binary_of (text_literal no_units) Op.Add (binary_of (name_use (codes "v_a")) Op.Greater (name_use (codes "v_b"))))))) (statement (expression_statement (host_call HostFunction.ConsoleLog (binary_of (text_literal (codes "41 ")) Op.Add (binary_of (text_literal no_units) Op.Add (binary_of (name_use (codes "v_a")) Op.GreaterOrEqual (name_use (codes "v_b"))))))) no_statements)))))))))))))))

abbrev item_5 : Item
item_5 = function_item (codes "s_java_lang_Object__main$$V") [] (statement (expression_statement (call_of (codes "s_java_lang_Object__ints$$I$$I$$V") (expression (number_literal (pos 7)) (expression (number_literal (negsuc 2)) no_expressions)))) (statement (expression_statement (call_of (codes "s_java_lang_Object__ints$$I$$I$$V") (expression (number_literal (negsuc 2147483647)) (expression (number_literal (negsuc 0)) no_expressions)))) (statement (expression_statement (call_of (codes "s_java_lang_Object__ints$$I$$I$$V") (expression (number_literal (pos 2147483647)) (expression (number_literal (pos 33)) no_expressions)))) (statement (expression_statement (call_of (codes "s_java_lang_Object__ints$$I$$I$$V") (expression (number_literal (pos 5)) (expression (number_literal (pos 0)) no_expressions)))) (statement (expression_statement (call_of (codes "s_java_lang_Object__longs$$J$$J$$V") (expression (big_literal (pos 7)) (expression (big_literal (negsuc 2)) no_expressions)))) (statement (expression_statement (call_of (codes "s_java_lang_Object__longs$$J$$J$$V") (expression (big_literal (negsuc 9223372036854775807)) (expression (big_literal (negsuc 0)) no_expressions)))) (statement (expression_statement (call_of (codes "s_java_lang_Object__longs$$J$$J$$V") (expression (big_literal (pos 9223372036854775807)) (expression (big_literal (pos 65)) no_expressions)))) (statement (expression_statement (call_of (codes "s_java_lang_Object__longs$$J$$J$$V") (expression (big_literal (pos 5)) (expression (big_literal (pos 0)) no_expressions)))) (statement (expression_statement (call_of (codes "s_java_lang_Object__bools$$Z$$Z$$V") (expression (boolean_literal true) (expression (boolean_literal true) no_expressions)))) (statement (expression_statement (call_of (codes "s_java_lang_Object__bools$$Z$$Z$$V") (expression (boolean_literal true) (expression (boolean_literal false) no_expressions)))) (statement (expression_statement (call_of (codes "s_java_lang_Object__bools$$Z$$Z$$V") (expression (boolean_literal false) (expression (boolean_literal true) no_expressions)))) (statement (expression_statement (call_of (codes "s_java_lang_Object__bools$$Z$$Z$$V") (expression (boolean_literal false) (expression (boolean_literal false) no_expressions)))) (statement (expression_statement (call_of (codes "s_java_lang_Object__conv$$I$$V") (expression (number_literal (pos 97)) no_expressions))) (statement (expression_statement (call_of (codes "s_java_lang_Object__conv$$I$$V") (expression (number_literal (negsuc 0)) no_expressions))) (statement (expression_statement (call_of (codes "s_java_lang_Object__conv$$I$$V") (expression (number_literal (pos 32768)) no_expressions))) (statement (expression_statement (call_of (codes "s_java_lang_Object__conv$$I$$V") (expression (number_literal (pos 2147483647)) no_expressions))) (statement (expression_statement (call_of (codes "s_java_lang_Object__folds$$V") no_expressions)) no_statements)))))))))))))))))

abbrev item_6 : Item
item_6 = expression_item (call_of (codes "s_java_lang_Object__main$$V") no_expressions)

abbrev pub files : Program
files = record { file = (codes "main.js"); content = Some (record { imports = []; items = (item_0 ∷ item_1 ∷ item_2 ∷ item_3 ∷ item_4 ∷ item_5 ∷ item_6 ∷ []); exports = [] }) } ∷ []
