-- The files that are put for a recorded folder.
use Rattle.std.specs.Prelude.{List, [], ◌∷◌, true, false, pos, negsuc, codes, Some}
use Rattle.js_tree.specs.Terms.{Item, null_literal, boolean_literal, undefined_literal, number_literal, big_literal, text_literal, name_use, this_use, property_of, index_of, call_of, method_call_of, new_of, new_array_of, list_of, binary_of, unary_of, conditional_of, host_call, host_call_of_two, no_expressions, expression, const_of, let_of, declare_of, expression_statement, assign_name, assign_property, assign_index, super_call, throw_of, return_of, break_nearest, break_to, if_only, if_else, while_of, do_forever, labeled_of, try_catch, try_finally, switch_on, no_statements, statement, no_cases, switch_case, constructor_of, method_of, const_item, object_item, let_item, expression_item, function_item, class_item, subclass_item}
use Rattle.js_tree.specs.declared.operators.BinaryOperator.TheVariants as Op
use Rattle.js_tree.specs.declared.operators.HostFunction.TheVariants as HostFunction
use Rattle.js_tree.specs.declared.operators.HostOperation.TheVariants as HostOperation
use Rattle.js_tree.specs.declared.operators.UnaryOperator.TheVariants.{Not, TypeOf}
use Rattle.js_mean.specs.States.{Program}
use Rattle.agree_recorded_folders.specs.Words.{no_units}

abbrev item_0 : Item
item_0 = object_item (codes "k_java_lang_Object") (record { name = (codes "s"); value = (text_literal (codes "i_java_lang_Object")) } ∷ record { name = (codes "i_java_lang_Object"); value = (number_literal (pos 1)) } ∷ [])

abbrev item_1 : Item
item_1 = class_item (codes "c_java_lang_Object") (constructor_of [] (statement (assign_property this_use (codes "k") (name_use (codes "k_java_lang_Object"))) no_statements) ∷ [])

abbrev item_2 : Item
item_2 = function_item (codes "ct_java_lang_Object__$3cinit$3e$$V") ((codes "$this") ∷ []) (statement (return_of (name_use (codes "$this"))) no_statements)

abbrev item_3 : Item
item_3 = function_item (codes "s_java_lang_Object__main$$V") [] (statement (try_catch (statement (let_of (codes "v_n") null_literal) (statement (expression_statement (method_call_of (call_of (codes "$nn") (expression (name_use (codes "v_n")) no_expressions)) (codes "m_m$$V") no_expressions)) no_statements)) (codes "v_e1") (statement (expression_statement (host_call HostFunction.ConsoleLog (binary_of (text_literal no_units) Op.Add (binary_of (text_literal no_units) Op.Add (method_call_of (call_of (codes "$nn") (expression (call_of (codes "as_java_lang_Throwable") (expression (name_use (codes "v_e1")) no_expressions)) no_expressions)) (codes "m_getMessage$$Ljava_lang_String") no_expressions))))) no_statements)) (statement (try_catch (statement (expression_statement (call_of (codes "as_A") (expression (call_of (codes "ct_B__$3cinit$3e$$V") (expression (new_of (codes "c_B") no_expressions) no_expressions)) no_expressions))) no_statements) (codes "v_e2") (statement (expression_statement (host_call HostFunction.ConsoleLog (binary_of (text_literal no_units) Op.Add (binary_of (text_literal no_units) Op.Add (method_call_of (call_of (codes "$nn") (expression (call_of (codes "as_java_lang_Throwable") (expression (name_use (codes "v_e2")) no_expressions)) no_expressions)) (codes "m_getMessage$$Ljava_lang_String") no_expressions))))) no_statements)) (statement (try_catch (statement (expression_statement (call_of (codes "$get") (expression (call_of (codes "$mk") (expression (number_literal (pos 1)) (expression (text_literal (codes "I")) (expression (number_literal (pos 2)) (expression (number_literal (pos 0)) no_expressions))))) (expression (number_literal (pos 2)) no_expressions)))) no_statements) (codes "v_e3") (statement (expression_statement (host_call HostFunction.ConsoleLog (binary_of (text_literal no_units) Op.Add (binary_of (text_literal no_units) Op.Add (method_call_of (call_of (codes "$nn") (expression (call_of (codes "as_java_lang_Throwable") (expression (name_use (codes "v_e3")) no_expressions)) no_expressions)) (codes "m_getMessage$$Ljava_lang_String") no_expressions))))) no_statements)) (statement (try_catch (statement (let_of (codes "v_xs") (call_of (codes "$mk") (expression (number_literal (pos 1)) (expression (name_use (codes "k_A")) (expression (number_literal (pos 1)) (expression null_literal no_expressions)))))) (statement (expression_statement (call_of (codes "$put") (expression (name_use (codes "v_xs")) (expression (number_literal (pos 0)) (expression (call_of (codes "ct_B__$3cinit$3e$$V") (expression (new_of (codes "c_B") no_expressions) no_expressions)) no_expressions))))) no_statements)) (codes "v_e4") (statement (expression_statement (host_call HostFunction.ConsoleLog (binary_of (text_literal no_units) Op.Add (binary_of (text_literal no_units) Op.Add (method_call_of (call_of (codes "$nn") (expression (call_of (codes "as_java_lang_Throwable") (expression (name_use (codes "v_e4")) no_expressions)) no_expressions)) (codes "m_getMessage$$Ljava_lang_String") no_expressions))))) no_statements)) no_statements))))

abbrev item_4 : Item
item_4 = subclass_item (codes "$A") (codes "c_java_lang_Object") (constructor_of ((codes "n") ∷ (codes "e") ∷ (codes "a") ∷ []) (statement super_call (statement (assign_property this_use (codes "n") (name_use (codes "n"))) (statement (assign_property this_use (codes "e") (name_use (codes "e"))) (statement (assign_property this_use (codes "a") (name_use (codes "a"))) no_statements)))) ∷ [])

abbrev item_5 : Item
item_5 = function_item (codes "$ase") [] (statement (throw_of (call_of (codes "ct_java_lang_ArrayStoreException__$3cinit$3e$$Ljava_lang_String$$V") (expression (new_of (codes "c_java_lang_ArrayStoreException") no_expressions) (expression (text_literal (codes "bad element")) no_expressions)))) no_statements)

abbrev item_6 : Item
item_6 = function_item (codes "$cce") ((codes "t") ∷ []) (statement (throw_of (call_of (codes "ct_java_lang_ClassCastException__$3cinit$3e$$Ljava_lang_String$$V") (expression (new_of (codes "c_java_lang_ClassCastException") no_expressions) (expression (name_use (codes "t")) no_expressions)))) no_statements)

abbrev item_7 : Item
item_7 = function_item (codes "$cov") ((codes "n") ∷ (codes "e") ∷ (codes "m") ∷ (codes "d") ∷ []) (statement (if_only (binary_of (name_use (codes "n")) Op.StrictEqual (name_use (codes "m"))) (statement (return_of (conditional_of (binary_of (unary_of TypeOf (name_use (codes "d"))) Op.StrictEqual (text_literal (codes "string"))) (binary_of (name_use (codes "e")) Op.StrictEqual (name_use (codes "d"))) (binary_of (binary_of (unary_of TypeOf (name_use (codes "e"))) Op.StrictEqual (text_literal (codes "object"))) Op.And (binary_of (property_of (name_use (codes "d")) (codes "s")) Op.In (name_use (codes "e")))))) no_statements)) (statement (return_of (binary_of (binary_of (binary_of (name_use (codes "n")) Op.Greater (name_use (codes "m"))) Op.And (binary_of (unary_of TypeOf (name_use (codes "d"))) Op.StrictEqual (text_literal (codes "object")))) Op.And (binary_of (property_of (name_use (codes "d")) (codes "s")) Op.StrictEqual (text_literal (codes "i_java_lang_Object"))))) no_statements))

abbrev item_8 : Item
item_8 = function_item (codes "$fits") ((codes "v") ∷ (codes "n") ∷ (codes "e") ∷ []) (statement (if_only (binary_of (name_use (codes "n")) Op.Greater (number_literal (pos 1))) (statement (return_of (binary_of (binary_of (name_use (codes "v")) Op.InstanceOf (name_use (codes "$A"))) Op.And (call_of (codes "$cov") (expression (property_of (name_use (codes "v")) (codes "n")) (expression (property_of (name_use (codes "v")) (codes "e")) (expression (binary_of (binary_of (name_use (codes "n")) Op.Subtract (number_literal (pos 1))) Op.BitOr (number_literal (pos 0))) (expression (name_use (codes "e")) no_expressions))))))) no_statements)) (statement (if_only (binary_of (property_of (name_use (codes "e")) (codes "s")) Op.StrictEqual (text_literal (codes "i_java_lang_Byte"))) (statement (return_of (call_of (codes "$isB") (expression (name_use (codes "v")) no_expressions))) no_statements)) (statement (if_only (binary_of (property_of (name_use (codes "e")) (codes "s")) Op.StrictEqual (text_literal (codes "i_java_lang_Short"))) (statement (return_of (call_of (codes "$isS") (expression (name_use (codes "v")) no_expressions))) no_statements)) (statement (return_of (binary_of (property_of (name_use (codes "e")) (codes "s")) Op.In (call_of (codes "$kof") (expression (name_use (codes "v")) no_expressions)))) no_statements))))

abbrev item_9 : Item
item_9 = function_item (codes "$get") ((codes "x") ∷ (codes "i") ∷ []) (statement (expression_statement (call_of (codes "$ix") (expression (name_use (codes "x")) (expression (name_use (codes "i")) no_expressions)))) (statement (return_of (index_of (property_of (name_use (codes "x")) (codes "a")) (name_use (codes "i")))) no_statements))

abbrev item_10 : Item
item_10 = function_item (codes "$ioe") ((codes "i") ∷ []) (statement (throw_of (call_of (codes "ct_java_lang_ArrayIndexOutOfBoundsException__$3cinit$3e$$Ljava_lang_String$$V") (expression (new_of (codes "c_java_lang_ArrayIndexOutOfBoundsException") no_expressions) (expression (binary_of (text_literal no_units) Op.Add (name_use (codes "i"))) no_expressions)))) no_statements)

abbrev item_11 : Item
item_11 = function_item (codes "$isB") ((codes "x") ∷ []) (statement (return_of (binary_of (binary_of (unary_of TypeOf (name_use (codes "x"))) Op.StrictEqual (text_literal (codes "number"))) Op.And (binary_of (binary_of (binary_of (name_use (codes "x")) Op.ShiftLeft (number_literal (pos 24))) Op.ShiftRight (number_literal (pos 24))) Op.StrictEqual (name_use (codes "x"))))) no_statements)

abbrev item_12 : Item
item_12 = function_item (codes "$isI") ((codes "x") ∷ []) (statement (return_of (binary_of (unary_of TypeOf (name_use (codes "x"))) Op.StrictEqual (text_literal (codes "number")))) no_statements)

abbrev item_13 : Item
item_13 = function_item (codes "$isJ") ((codes "x") ∷ []) (statement (return_of (binary_of (unary_of TypeOf (name_use (codes "x"))) Op.StrictEqual (text_literal (codes "bigint")))) no_statements)

abbrev item_14 : Item
item_14 = function_item (codes "$isS") ((codes "x") ∷ []) (statement (return_of (binary_of (binary_of (unary_of TypeOf (name_use (codes "x"))) Op.StrictEqual (text_literal (codes "number"))) Op.And (binary_of (binary_of (binary_of (name_use (codes "x")) Op.ShiftLeft (number_literal (pos 16))) Op.ShiftRight (number_literal (pos 16))) Op.StrictEqual (name_use (codes "x"))))) no_statements)

abbrev item_15 : Item
item_15 = function_item (codes "$isT") ((codes "x") ∷ []) (statement (return_of (binary_of (unary_of TypeOf (name_use (codes "x"))) Op.StrictEqual (text_literal (codes "string")))) no_statements)

abbrev item_16 : Item
item_16 = function_item (codes "$isV") ((codes "x") ∷ []) (statement (return_of (binary_of (name_use (codes "x")) Op.StrictEqual undefined_literal)) no_statements)

abbrev item_17 : Item
item_17 = function_item (codes "$isZ") ((codes "x") ∷ []) (statement (return_of (binary_of (unary_of TypeOf (name_use (codes "x"))) Op.StrictEqual (text_literal (codes "boolean")))) no_statements)

abbrev item_18 : Item
item_18 = function_item (codes "$ix") ((codes "x") ∷ (codes "i") ∷ []) (statement (if_only (binary_of (binary_of (name_use (codes "i")) Op.Less (number_literal (pos 0))) Op.Or (binary_of (name_use (codes "i")) Op.GreaterOrEqual (property_of (property_of (name_use (codes "x")) (codes "a")) (codes "length")))) (statement (expression_statement (call_of (codes "$ioe") (expression (name_use (codes "i")) no_expressions))) no_statements)) no_statements)

abbrev item_19 : Item
item_19 = object_item (codes "$kI") (record { name = (codes "s"); value = (text_literal (codes "i_java_lang_Integer")) } ∷ record { name = (codes "i_java_lang_Integer"); value = (number_literal (pos 1)) } ∷ record { name = (codes "i_java_lang_Object"); value = (number_literal (pos 1)) } ∷ [])

abbrev item_20 : Item
item_20 = object_item (codes "$kJ") (record { name = (codes "s"); value = (text_literal (codes "i_java_lang_Long")) } ∷ record { name = (codes "i_java_lang_Long"); value = (number_literal (pos 1)) } ∷ record { name = (codes "i_java_lang_Object"); value = (number_literal (pos 1)) } ∷ [])

abbrev item_21 : Item
item_21 = object_item (codes "$kT") (record { name = (codes "s"); value = (text_literal (codes "i_java_lang_String")) } ∷ record { name = (codes "i_java_lang_Object"); value = (number_literal (pos 1)) } ∷ record { name = (codes "i_java_lang_String"); value = (number_literal (pos 1)) } ∷ [])

abbrev item_22 : Item
item_22 = object_item (codes "$kV") (record { name = (codes "s"); value = (text_literal (codes "i_java_lang_Void")) } ∷ record { name = (codes "i_java_lang_Object"); value = (number_literal (pos 1)) } ∷ record { name = (codes "i_java_lang_Void"); value = (number_literal (pos 1)) } ∷ [])

abbrev item_23 : Item
item_23 = object_item (codes "$kZ") (record { name = (codes "s"); value = (text_literal (codes "i_java_lang_Boolean")) } ∷ record { name = (codes "i_java_lang_Boolean"); value = (number_literal (pos 1)) } ∷ record { name = (codes "i_java_lang_Object"); value = (number_literal (pos 1)) } ∷ [])

abbrev item_24 : Item
item_24 = function_item (codes "$kof") ((codes "v") ∷ []) (statement (if_only (call_of (codes "$isV") (expression (name_use (codes "v")) no_expressions)) (statement (return_of (name_use (codes "$kV"))) no_statements)) (statement (if_only (call_of (codes "$isZ") (expression (name_use (codes "v")) no_expressions)) (statement (return_of (name_use (codes "$kZ"))) no_statements)) (statement (if_only (call_of (codes "$isI") (expression (name_use (codes "v")) no_expressions)) (statement (return_of (name_use (codes "$kI"))) no_statements)) (statement (if_only (call_of (codes "$isJ") (expression (name_use (codes "v")) no_expressions)) (statement (return_of (name_use (codes "$kJ"))) no_statements)) (statement (if_only (call_of (codes "$isT") (expression (name_use (codes "v")) no_expressions)) (statement (return_of (name_use (codes "$kT"))) no_statements)) (statement (return_of (property_of (name_use (codes "v")) (codes "k"))) no_statements))))))

abbrev item_25 : Item
item_25 = function_item (codes "$mk") ((codes "n") ∷ (codes "e") ∷ (codes "l") ∷ (codes "z") ∷ []) (statement (if_only (binary_of (name_use (codes "l")) Op.Less (number_literal (pos 0))) (statement (expression_statement (call_of (codes "$nse") (expression (name_use (codes "l")) no_expressions))) no_statements)) (statement (return_of (new_of (codes "$A") (expression (name_use (codes "n")) (expression (name_use (codes "e")) (expression (method_call_of (new_array_of (name_use (codes "l"))) (codes "fill") (expression (name_use (codes "z")) no_expressions)) no_expressions))))) no_statements))

abbrev item_26 : Item
item_26 = function_item (codes "$nn") ((codes "x") ∷ []) (statement (if_only (binary_of (name_use (codes "x")) Op.StrictEqual null_literal) (statement (expression_statement (call_of (codes "$npe") no_expressions)) no_statements)) (statement (return_of (name_use (codes "x"))) no_statements))

abbrev item_27 : Item
item_27 = function_item (codes "$npe") [] (statement (throw_of (call_of (codes "ct_java_lang_NullPointerException__$3cinit$3e$$Ljava_lang_String$$V") (expression (new_of (codes "c_java_lang_NullPointerException") no_expressions) (expression (text_literal (codes "null")) no_expressions)))) no_statements)

abbrev item_28 : Item
item_28 = function_item (codes "$nse") ((codes "n") ∷ []) (statement (throw_of (call_of (codes "ct_java_lang_NegativeArraySizeException__$3cinit$3e$$Ljava_lang_String$$V") (expression (new_of (codes "c_java_lang_NegativeArraySizeException") no_expressions) (expression (binary_of (text_literal no_units) Op.Add (name_use (codes "n"))) no_expressions)))) no_statements)

abbrev item_29 : Item
item_29 = function_item (codes "$put") ((codes "x") ∷ (codes "i") ∷ (codes "v") ∷ []) (statement (expression_statement (call_of (codes "$ix") (expression (name_use (codes "x")) (expression (name_use (codes "i")) no_expressions)))) (statement (if_only (binary_of (binary_of (name_use (codes "v")) Op.StrictNotEqual null_literal) Op.And (unary_of Not (call_of (codes "$fits") (expression (name_use (codes "v")) (expression (property_of (name_use (codes "x")) (codes "n")) (expression (property_of (name_use (codes "x")) (codes "e")) no_expressions)))))) (statement (expression_statement (call_of (codes "$ase") no_expressions)) no_statements)) (statement (assign_index (property_of (name_use (codes "x")) (codes "a")) (name_use (codes "i")) (name_use (codes "v"))) no_statements)))

abbrev item_30 : Item
item_30 = object_item (codes "k_A") (record { name = (codes "s"); value = (text_literal (codes "i_A")) } ∷ record { name = (codes "i_A"); value = (number_literal (pos 1)) } ∷ record { name = (codes "i_java_lang_Object"); value = (number_literal (pos 1)) } ∷ [])

abbrev item_31 : Item
item_31 = function_item (codes "is_A") ((codes "x") ∷ []) (statement (return_of (binary_of (binary_of (name_use (codes "x")) Op.StrictNotEqual null_literal) Op.And (binary_of (binary_of (unary_of TypeOf (name_use (codes "x"))) Op.StrictEqual (text_literal (codes "object"))) Op.And (binary_of (text_literal (codes "i_A")) Op.In (property_of (name_use (codes "x")) (codes "k")))))) no_statements)

abbrev item_32 : Item
item_32 = function_item (codes "as_A") ((codes "x") ∷ []) (statement (return_of (conditional_of (binary_of (binary_of (name_use (codes "x")) Op.StrictEqual null_literal) Op.Or (call_of (codes "is_A") (expression (name_use (codes "x")) no_expressions))) (name_use (codes "x")) (call_of (codes "$cce") (expression (text_literal (codes "A")) no_expressions)))) no_statements)

abbrev item_33 : Item
item_33 = object_item (codes "k_B") (record { name = (codes "s"); value = (text_literal (codes "i_B")) } ∷ record { name = (codes "i_B"); value = (number_literal (pos 1)) } ∷ record { name = (codes "i_java_lang_Object"); value = (number_literal (pos 1)) } ∷ [])

abbrev item_34 : Item
item_34 = subclass_item (codes "c_B") (codes "c_java_lang_Object") (constructor_of [] (statement super_call (statement (assign_property this_use (codes "k") (name_use (codes "k_B"))) no_statements)) ∷ [])

abbrev item_35 : Item
item_35 = function_item (codes "ct_B__$3cinit$3e$$V") ((codes "$this") ∷ []) (statement (expression_statement (call_of (codes "ct_java_lang_Object__$3cinit$3e$$V") (expression (name_use (codes "$this")) no_expressions))) (statement (return_of (name_use (codes "$this"))) no_statements))

abbrev item_36 : Item
item_36 = object_item (codes "k_java_lang_Throwable") (record { name = (codes "s"); value = (text_literal (codes "i_java_lang_Throwable")) } ∷ record { name = (codes "i_java_lang_Object"); value = (number_literal (pos 1)) } ∷ record { name = (codes "i_java_lang_Throwable"); value = (number_literal (pos 1)) } ∷ [])

abbrev item_37 : Item
item_37 = subclass_item (codes "c_java_lang_Throwable") (codes "c_java_lang_Object") (constructor_of [] (statement super_call (statement (assign_property this_use (codes "k") (name_use (codes "k_java_lang_Throwable"))) (statement (assign_property this_use (codes "f_java_lang_Throwable__message") null_literal) no_statements))) ∷ method_of (codes "m_getMessage$$Ljava_lang_String") [] (statement (return_of (call_of (codes "f_java_lang_Throwable__getMessage$$Ljava_lang_String") (expression this_use no_expressions))) no_statements) ∷ [])

abbrev item_38 : Item
item_38 = function_item (codes "is_java_lang_Throwable") ((codes "x") ∷ []) (statement (return_of (binary_of (binary_of (name_use (codes "x")) Op.StrictNotEqual null_literal) Op.And (binary_of (binary_of (unary_of TypeOf (name_use (codes "x"))) Op.StrictEqual (text_literal (codes "object"))) Op.And (binary_of (text_literal (codes "i_java_lang_Throwable")) Op.In (property_of (name_use (codes "x")) (codes "k")))))) no_statements)

abbrev item_39 : Item
item_39 = function_item (codes "as_java_lang_Throwable") ((codes "x") ∷ []) (statement (return_of (conditional_of (binary_of (binary_of (name_use (codes "x")) Op.StrictEqual null_literal) Op.Or (call_of (codes "is_java_lang_Throwable") (expression (name_use (codes "x")) no_expressions))) (name_use (codes "x")) (call_of (codes "$cce") (expression (text_literal (codes "java.lang.Throwable")) no_expressions)))) no_statements)

abbrev item_40 : Item
item_40 = function_item (codes "ct_java_lang_Throwable__$3cinit$3e$$Ljava_lang_String$$V") ((codes "$this") ∷ (codes "v_m") ∷ []) (statement (expression_statement (call_of (codes "ct_java_lang_Object__$3cinit$3e$$V") (expression (name_use (codes "$this")) no_expressions))) (statement (assign_property (name_use (codes "$this")) (codes "f_java_lang_Throwable__message") (name_use (codes "v_m"))) (statement (return_of (name_use (codes "$this"))) no_statements)))

abbrev item_41 : Item
item_41 = function_item (codes "f_java_lang_Throwable__getMessage$$Ljava_lang_String") ((codes "$this") ∷ []) (statement (return_of (property_of (name_use (codes "$this")) (codes "f_java_lang_Throwable__message"))) no_statements)

abbrev item_42 : Item
item_42 = object_item (codes "k_java_lang_ArrayIndexOutOfBoundsException") (record { name = (codes "s"); value = (text_literal (codes "i_java_lang_ArrayIndexOutOfBoundsException")) } ∷ record { name = (codes "i_java_lang_ArrayIndexOutOfBoundsException"); value = (number_literal (pos 1)) } ∷ record { name = (codes "i_java_lang_Object"); value = (number_literal (pos 1)) } ∷ record { name = (codes "i_java_lang_Throwable"); value = (number_literal (pos 1)) } ∷ [])

abbrev item_43 : Item
item_43 = subclass_item (codes "c_java_lang_ArrayIndexOutOfBoundsException") (codes "c_java_lang_Throwable") (constructor_of [] (statement super_call (statement (assign_property this_use (codes "k") (name_use (codes "k_java_lang_ArrayIndexOutOfBoundsException"))) no_statements)) ∷ [])

abbrev item_44 : Item
item_44 = function_item (codes "ct_java_lang_ArrayIndexOutOfBoundsException__$3cinit$3e$$Ljava_lang_String$$V") ((codes "$this") ∷ (codes "v_m") ∷ []) (statement (expression_statement (call_of (codes "ct_java_lang_Throwable__$3cinit$3e$$Ljava_lang_String$$V") (expression (name_use (codes "$this")) (expression (name_use (codes "v_m")) no_expressions)))) (statement (return_of (name_use (codes "$this"))) no_statements))

abbrev item_45 : Item
item_45 = object_item (codes "k_java_lang_ArrayStoreException") (record { name = (codes "s"); value = (text_literal (codes "i_java_lang_ArrayStoreException")) } ∷ record { name = (codes "i_java_lang_ArrayStoreException"); value = (number_literal (pos 1)) } ∷ record { name = (codes "i_java_lang_Object"); value = (number_literal (pos 1)) } ∷ record { name = (codes "i_java_lang_Throwable"); value = (number_literal (pos 1)) } ∷ [])

abbrev item_46 : Item
item_46 = subclass_item (codes "c_java_lang_ArrayStoreException") (codes "c_java_lang_Throwable") (constructor_of [] (statement super_call (statement (assign_property this_use (codes "k") (name_use (codes "k_java_lang_ArrayStoreException"))) no_statements)) ∷ [])

abbrev item_47 : Item
item_47 = function_item (codes "ct_java_lang_ArrayStoreException__$3cinit$3e$$Ljava_lang_String$$V") ((codes "$this") ∷ (codes "v_m") ∷ []) (statement (expression_statement (call_of (codes "ct_java_lang_Throwable__$3cinit$3e$$Ljava_lang_String$$V") (expression (name_use (codes "$this")) (expression (name_use (codes "v_m")) no_expressions)))) (statement (return_of (name_use (codes "$this"))) no_statements))

abbrev item_48 : Item
item_48 = object_item (codes "k_java_lang_ClassCastException") (record { name = (codes "s"); value = (text_literal (codes "i_java_lang_ClassCastException")) } ∷ record { name = (codes "i_java_lang_ClassCastException"); value = (number_literal (pos 1)) } ∷ record { name = (codes "i_java_lang_Object"); value = (number_literal (pos 1)) } ∷ record { name = (codes "i_java_lang_Throwable"); value = (number_literal (pos 1)) } ∷ [])

abbrev item_49 : Item
item_49 = subclass_item (codes "c_java_lang_ClassCastException") (codes "c_java_lang_Throwable") (constructor_of [] (statement super_call (statement (assign_property this_use (codes "k") (name_use (codes "k_java_lang_ClassCastException"))) no_statements)) ∷ [])

abbrev item_50 : Item
item_50 = function_item (codes "ct_java_lang_ClassCastException__$3cinit$3e$$Ljava_lang_String$$V") ((codes "$this") ∷ (codes "v_m") ∷ []) (statement (expression_statement (call_of (codes "ct_java_lang_Throwable__$3cinit$3e$$Ljava_lang_String$$V") (expression (name_use (codes "$this")) (expression (name_use (codes "v_m")) no_expressions)))) (statement (return_of (name_use (codes "$this"))) no_statements))

abbrev item_51 : Item
item_51 = object_item (codes "k_java_lang_NegativeArraySizeException") (record { name = (codes "s"); value = (text_literal (codes "i_java_lang_NegativeArraySizeException")) } ∷ record { name = (codes "i_java_lang_NegativeArraySizeException"); value = (number_literal (pos 1)) } ∷ record { name = (codes "i_java_lang_Object"); value = (number_literal (pos 1)) } ∷ record { name = (codes "i_java_lang_Throwable"); value = (number_literal (pos 1)) } ∷ [])

abbrev item_52 : Item
item_52 = subclass_item (codes "c_java_lang_NegativeArraySizeException") (codes "c_java_lang_Throwable") (constructor_of [] (statement super_call (statement (assign_property this_use (codes "k") (name_use (codes "k_java_lang_NegativeArraySizeException"))) no_statements)) ∷ [])

abbrev item_53 : Item
item_53 = function_item (codes "ct_java_lang_NegativeArraySizeException__$3cinit$3e$$Ljava_lang_String$$V") ((codes "$this") ∷ (codes "v_m") ∷ []) (statement (expression_statement (call_of (codes "ct_java_lang_Throwable__$3cinit$3e$$Ljava_lang_String$$V") (expression (name_use (codes "$this")) (expression (name_use (codes "v_m")) no_expressions)))) (statement (return_of (name_use (codes "$this"))) no_statements))

abbrev item_54 : Item
item_54 = object_item (codes "k_java_lang_NullPointerException") (record { name = (codes "s"); value = (text_literal (codes "i_java_lang_NullPointerException")) } ∷ record { name = (codes "i_java_lang_NullPointerException"); value = (number_literal (pos 1)) } ∷ record { name = (codes "i_java_lang_Object"); value = (number_literal (pos 1)) } ∷ record { name = (codes "i_java_lang_Throwable"); value = (number_literal (pos 1)) } ∷ [])

abbrev item_55 : Item
item_55 = subclass_item (codes "c_java_lang_NullPointerException") (codes "c_java_lang_Throwable") (constructor_of [] (statement super_call (statement (assign_property this_use (codes "k") (name_use (codes "k_java_lang_NullPointerException"))) no_statements)) ∷ [])

abbrev item_56 : Item
item_56 = function_item (codes "ct_java_lang_NullPointerException__$3cinit$3e$$Ljava_lang_String$$V") ((codes "$this") ∷ (codes "v_m") ∷ []) (statement (expression_statement (call_of (codes "ct_java_lang_Throwable__$3cinit$3e$$Ljava_lang_String$$V") (expression (name_use (codes "$this")) (expression (name_use (codes "v_m")) no_expressions)))) (statement (return_of (name_use (codes "$this"))) no_statements))

abbrev item_57 : Item
item_57 = expression_item (call_of (codes "s_java_lang_Object__main$$V") no_expressions)

abbrev pub files : Program
files = record { file = (codes "main.js"); content = Some (record { imports = []; items = (item_0 ∷ item_1 ∷ item_2 ∷ item_3 ∷ item_4 ∷ item_5 ∷ item_6 ∷ item_7 ∷ item_8 ∷ item_9 ∷ item_10 ∷ item_11 ∷ item_12 ∷ item_13 ∷ item_14 ∷ item_15 ∷ item_16 ∷ item_17 ∷ item_18 ∷ item_19 ∷ item_20 ∷ item_21 ∷ item_22 ∷ item_23 ∷ item_24 ∷ item_25 ∷ item_26 ∷ item_27 ∷ item_28 ∷ item_29 ∷ item_30 ∷ item_31 ∷ item_32 ∷ item_33 ∷ item_34 ∷ item_35 ∷ item_36 ∷ item_37 ∷ item_38 ∷ item_39 ∷ item_40 ∷ item_41 ∷ item_42 ∷ item_43 ∷ item_44 ∷ item_45 ∷ item_46 ∷ item_47 ∷ item_48 ∷ item_49 ∷ item_50 ∷ item_51 ∷ item_52 ∷ item_53 ∷ item_54 ∷ item_55 ∷ item_56 ∷ item_57 ∷ []); exports = [] }) } ∷ []
