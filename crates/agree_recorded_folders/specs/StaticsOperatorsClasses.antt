-- The classes of a recorded folder, and its entries.
use Rattle.std.specs.Prelude.{List, [], ◌∷◌, true, false, pos, negsuc, codes, Some, None}
use Rattle.sj_names.specs.declared.entry_points.EntryPoint.{EntryPoint}
use Rattle.sj_names.specs.declared.method_names.Namespace.TheVariants as Namespace
use Rattle.sj_names.specs.declared.references.BaseRef.TheVariants as BaseRef
use Rattle.sj_names.specs.declared.references.TypeRef.TheVariants as TypeRef
use Rattle.sj_trees.specs.declared.classes.ClassDef.{ClassDef}
use Rattle.sj_trees.specs.declared.classes.ClassKind.TheVariants as ClassKind
use Rattle.sj_trees.specs.declared.operators.BinaryOp.TheVariants as BinaryOp
use Rattle.sj_trees.specs.declared.operators.UnaryOp.TheVariants as UnaryOp
use Rattle.sj_trees.specs.declared.types.IrType.TheVariants as IrType
use Rattle.sj_trees.specs.Term.{no_terms, more_terms, no_cases, more_cases, var_def, skip, block_of, labeled, assign, return_to, if_then, while_loop, do_while, try_catch, try_finally, throw, match_on, new_object, load_module, store_module, select, select_static, apply, apply_statically, apply_static, unary_op, binary_op, new_array, array_value, array_length, array_select, is_instance_of, as_instance_of, undefined_literal, null_literal, boolean_literal, char_literal, byte_literal, short_literal, int_literal, long_literal, string_literal, var_ref, this_ref, log_line}
use Rattle.agree_recorded_folders.specs.Words.{nowhere, no_units, m, array_of, field_of, parameter, method_of, class_with}

abbrev class_0 : ClassDef
class_0 = class_with (codes "java.lang.Object") ClassKind.Class None [] [] (method_of Namespace.Constructor (m (codes "<init>") [] (Some TypeRef.Void)) [] IrType.NoType (Some (skip nowhere)) ∷ method_of Namespace.PublicStatic (m (codes "ints") (TypeRef.Int ∷ TypeRef.Int ∷ []) (Some TypeRef.Void)) (parameter (codes "a") false IrType.Int ∷ parameter (codes "b") false IrType.Int ∷ []) IrType.NoType (Some (block_of nowhere (more_terms (log_line nowhere (binary_op nowhere BinaryOp.StringConcatenate (string_literal nowhere (codes "8 ")) (binary_op nowhere BinaryOp.IntAdd (var_ref nowhere (codes "a") IrType.Int) (var_ref nowhere (codes "b") IrType.Int)))) (more_terms (log_line nowhere (binary_op nowhere BinaryOp.StringConcatenate (string_literal nowhere (codes "9 ")) (binary_op nowhere BinaryOp.IntSubtract (var_ref nowhere (codes "a") IrType.Int) (var_ref nowhere (codes "b") IrType.Int)))) (more_terms (log_line nowhere (binary_op nowhere BinaryOp.StringConcatenate (string_literal nowhere (codes "10 ")) (binary_op nowhere BinaryOp.IntMultiply (var_ref nowhere (codes "a") IrType.Int) (var_ref nowhere (codes "b") IrType.Int)))) (more_terms (log_line nowhere (binary_op nowhere BinaryOp.StringConcatenate (string_literal nowhere (codes "13 ")) (binary_op nowhere BinaryOp.IntOr (var_ref nowhere (codes "a") IrType.Int) (var_ref nowhere (codes "b") IrType.Int)))) (more_terms (log_line nowhere (binary_op nowhere BinaryOp.StringConcatenate (string_literal nowhere (codes "14 ")) (binary_op nowhere BinaryOp.IntAnd (var_ref nowhere (codes "a") IrType.Int) (var_ref nowhere (codes "b") IrType.Int)))) (more_terms (log_line nowhere (binary_op nowhere BinaryOp.StringConcatenate (string_literal nowhere (codes "15 ")) (binary_op nowhere BinaryOp.IntXor (var_ref nowhere (codes "a") IrType.Int) (var_ref nowhere (codes "b") IrType.Int)))) (more_terms (log_line nowhere (binary_op nowhere BinaryOp.StringConcatenate (string_literal nowhere (codes "16 ")) (binary_op nowhere BinaryOp.IntShiftLeft (var_ref nowhere (codes "a") IrType.Int) (var_ref nowhere (codes "b") IrType.Int)))) (more_terms (log_line nowhere (binary_op nowhere BinaryOp.StringConcatenate (string_literal nowhere (codes "17 ")) (binary_op nowhere BinaryOp.IntShiftRightLogical (var_ref nowhere (codes "a") IrType.Int) (var_ref nowhere (codes "b") IrType.Int)))) (more_terms (log_line nowhere (binary_op nowhere BinaryOp.StringConcatenate (string_literal nowhere (codes "18 ")) (binary_op nowhere BinaryOp.IntShiftRightArithmetic (var_ref nowhere (codes "a") IrType.Int) (var_ref nowhere (codes "b") IrType.Int)))) (more_terms (log_line nowhere (binary_op nowhere BinaryOp.StringConcatenate (string_literal nowhere (codes "19 ")) (binary_op nowhere BinaryOp.IntEqual (var_ref nowhere (codes "a") IrType.Int) (var_ref nowhere (codes "b") IrType.Int)))) (more_terms (log_line nowhere (binary_op nowhere BinaryOp.StringConcatenate (string_literal nowhere (codes "20 ")) (binary_op nowhere BinaryOp.IntNotEqual (var_ref nowhere (codes "a") IrType.Int) (var_ref nowhere (codes "b") IrType.Int)))) (more_terms (log_line nowhere (binary_op nowhere BinaryOp.StringConcatenate (string_literal nowhere (codes "21 ")) (binary_op nowhere BinaryOp.IntLess (var_ref nowhere (codes "a") IrType.Int) (var_ref nowhere (codes "b") IrType.Int)))) (more_terms (log_line nowhere (binary_op nowhere BinaryOp.StringConcatenate (string_literal nowhere (codes "22 ")) (binary_op nowhere BinaryOp.IntLessOrEqual (var_ref nowhere (codes "a") IrType.Int) (var_ref nowhere (codes "b") IrType.Int)))) (more_terms (log_line nowhere (binary_op nowhere BinaryOp.StringConcatenate (string_literal nowhere (codes "23 ")) (binary_op nowhere BinaryOp.IntGreater (var_ref nowhere (codes "a") IrType.Int) (var_ref nowhere (codes "b") IrType.Int)))) (more_terms (log_line nowhere (binary_op nowhere BinaryOp.StringConcatenate (string_literal nowhere (codes "24 ")) (binary_op nowhere BinaryOp.IntGreaterOrEqual (var_ref nowhere (codes "a") IrType.Int) (var_ref nowhere (codes "b") IrType.Int)))) no_terms))))))))))))))))) ∷ method_of Namespace.PublicStatic (m (codes "longs") (TypeRef.Long ∷ TypeRef.Long ∷ []) (Some TypeRef.Void)) (parameter (codes "a") false IrType.Long ∷ parameter (codes "b") false IrType.Long ∷ []) IrType.NoType (Some (block_of nowhere (more_terms (log_line nowhere (binary_op nowhere BinaryOp.StringConcatenate (string_literal nowhere (codes "25 ")) (binary_op nowhere BinaryOp.LongAdd (var_ref nowhere (codes "a") IrType.Long) (var_ref nowhere (codes "b") IrType.Long)))) (more_terms (log_line nowhere (binary_op nowhere BinaryOp.StringConcatenate (string_literal nowhere (codes "26 ")) (binary_op nowhere BinaryOp.LongSubtract (var_ref nowhere (codes "a") IrType.Long) (var_ref nowhere (codes "b") IrType.Long)))) (more_terms (log_line nowhere (binary_op nowhere BinaryOp.StringConcatenate (string_literal nowhere (codes "27 ")) (binary_op nowhere BinaryOp.LongMultiply (var_ref nowhere (codes "a") IrType.Long) (var_ref nowhere (codes "b") IrType.Long)))) (more_terms (log_line nowhere (binary_op nowhere BinaryOp.StringConcatenate (string_literal nowhere (codes "30 ")) (binary_op nowhere BinaryOp.LongOr (var_ref nowhere (codes "a") IrType.Long) (var_ref nowhere (codes "b") IrType.Long)))) (more_terms (log_line nowhere (binary_op nowhere BinaryOp.StringConcatenate (string_literal nowhere (codes "31 ")) (binary_op nowhere BinaryOp.LongAnd (var_ref nowhere (codes "a") IrType.Long) (var_ref nowhere (codes "b") IrType.Long)))) (more_terms (log_line nowhere (binary_op nowhere BinaryOp.StringConcatenate (string_literal nowhere (codes "32 ")) (binary_op nowhere BinaryOp.LongXor (var_ref nowhere (codes "a") IrType.Long) (var_ref nowhere (codes "b") IrType.Long)))) (more_terms (log_line nowhere (binary_op nowhere BinaryOp.StringConcatenate (string_literal nowhere (codes "33 ")) (binary_op nowhere BinaryOp.LongShiftLeft (var_ref nowhere (codes "a") IrType.Long) (unary_op nowhere UnaryOp.LongToInt (var_ref nowhere (codes "b") IrType.Long))))) (more_terms (log_line nowhere (binary_op nowhere BinaryOp.StringConcatenate (string_literal nowhere (codes "34 ")) (binary_op nowhere BinaryOp.LongShiftRightLogical (var_ref nowhere (codes "a") IrType.Long) (unary_op nowhere UnaryOp.LongToInt (var_ref nowhere (codes "b") IrType.Long))))) (more_terms (log_line nowhere (binary_op nowhere BinaryOp.StringConcatenate (string_literal nowhere (codes "35 ")) (binary_op nowhere BinaryOp.LongShiftRightArithmetic (var_ref nowhere (codes "a") IrType.Long) (unary_op nowhere UnaryOp.LongToInt (var_ref nowhere (codes "b") IrType.Long))))) (more_terms (log_line nowhere (binary_op nowhere BinaryOp.StringConcatenate (string_literal nowhere (codes "36 ")) (binary_op nowhere BinaryOp.LongEqual (var_ref nowhere (codes "a") IrType.Long) (var_ref nowhere (codes "b") IrType.Long)))) (more_terms (log_line nowhere (binary_op nowhere BinaryOp.StringConcatenate (string_literal nowhere (codes "37 ")) (binary_op nowhere BinaryOp.LongNotEqual (var_ref nowhere (codes "a") IrType.Long) (var_ref nowhere (codes "b") IrType.Long)))) (more_terms (log_line nowhere (binary_op nowhere BinaryOp.StringConcatenate (string_literal nowhere (codes "38 ")) (binary_op nowhere BinaryOp.LongLess (var_ref nowhere (codes "a") IrType.Long) (var_ref nowhere (codes "b") IrType.Long)))) (more_terms (log_line nowhere (binary_op nowhere BinaryOp.StringConcatenate (string_literal nowhere (codes "39 ")) (binary_op nowhere BinaryOp.LongLessOrEqual (var_ref nowhere (codes "a") IrType.Long) (var_ref nowhere (codes "b") IrType.Long)))) (more_terms (log_line nowhere (binary_op nowhere BinaryOp.StringConcatenate (string_literal nowhere (codes "40 ")) (binary_op nowhere BinaryOp.LongGreater (var_ref nowhere (codes "a") IrType.Long) (var_ref nowhere (codes "b") IrType.Long)))) (more_terms (log_line nowhere (binary_op nowhere BinaryOp.StringConcatenate (string_literal nowhere (codes "41 ")) (binary_op nowhere BinaryOp.LongGreaterOrEqual (var_ref nowhere (codes "a") IrType.Long) (var_ref nowhere (codes "b") IrType.Long)))) no_terms))))))))))))))))) ∷ method_of Namespace.PublicStatic (m (codes "bools") (TypeRef.Boolean ∷ TypeRef.Boolean ∷ []) (Some TypeRef.Void)) (parameter (codes "a") false IrType.Boolean ∷ parameter (codes "b") false IrType.Boolean ∷ []) IrType.NoType (Some (block_of nowhere (more_terms (log_line nowhere (binary_op nowhere BinaryOp.StringConcatenate (string_literal nowhere (codes "4 ")) (binary_op nowhere BinaryOp.BooleanEqual (var_ref nowhere (codes "a") IrType.Boolean) (var_ref nowhere (codes "b") IrType.Boolean)))) (more_terms (log_line nowhere (binary_op nowhere BinaryOp.StringConcatenate (string_literal nowhere (codes "5 ")) (binary_op nowhere BinaryOp.BooleanNotEqual (var_ref nowhere (codes "a") IrType.Boolean) (var_ref nowhere (codes "b") IrType.Boolean)))) (more_terms (log_line nowhere (binary_op nowhere BinaryOp.StringConcatenate (string_literal nowhere (codes "6 ")) (binary_op nowhere BinaryOp.BooleanOr (var_ref nowhere (codes "a") IrType.Boolean) (var_ref nowhere (codes "b") IrType.Boolean)))) (more_terms (log_line nowhere (binary_op nowhere BinaryOp.StringConcatenate (string_literal nowhere (codes "7 ")) (binary_op nowhere BinaryOp.BooleanAnd (var_ref nowhere (codes "a") IrType.Boolean) (var_ref nowhere (codes "b") IrType.Boolean)))) (more_terms (log_line nowhere (binary_op nowhere BinaryOp.StringConcatenate (string_literal nowhere (codes "1 ")) (unary_op nowhere UnaryOp.BooleanNot (var_ref nowhere (codes "a") IrType.Boolean)))) no_terms))))))) ∷ method_of Namespace.PublicStatic (m (codes "conv") (TypeRef.Int ∷ []) (Some TypeRef.Void)) (parameter (codes "a") false IrType.Int ∷ []) IrType.NoType (Some (block_of nowhere (more_terms (log_line nowhere (binary_op nowhere BinaryOp.StringConcatenate (string_literal nowhere (codes "u5 ")) (unary_op nowhere UnaryOp.IntToLong (var_ref nowhere (codes "a") IrType.Int)))) (more_terms (log_line nowhere (binary_op nowhere BinaryOp.StringConcatenate (string_literal nowhere (codes "u6 ")) (unary_op nowhere UnaryOp.IntToChar (var_ref nowhere (codes "a") IrType.Int)))) (more_terms (log_line nowhere (binary_op nowhere BinaryOp.StringConcatenate (string_literal nowhere (codes "u7 ")) (unary_op nowhere UnaryOp.IntToByte (var_ref nowhere (codes "a") IrType.Int)))) (more_terms (log_line nowhere (binary_op nowhere BinaryOp.StringConcatenate (string_literal nowhere (codes "u8 ")) (unary_op nowhere UnaryOp.IntToShort (var_ref nowhere (codes "a") IrType.Int)))) (more_terms (log_line nowhere (binary_op nowhere BinaryOp.StringConcatenate (string_literal nowhere (codes "u2 ")) (unary_op nowhere UnaryOp.CharToInt (unary_op nowhere UnaryOp.IntToChar (var_ref nowhere (codes "a") IrType.Int))))) (more_terms (log_line nowhere (binary_op nowhere BinaryOp.StringConcatenate (string_literal nowhere (codes "u3 ")) (unary_op nowhere UnaryOp.ByteToInt (unary_op nowhere UnaryOp.IntToByte (var_ref nowhere (codes "a") IrType.Int))))) (more_terms (log_line nowhere (binary_op nowhere BinaryOp.StringConcatenate (string_literal nowhere (codes "u4 ")) (unary_op nowhere UnaryOp.ShortToInt (unary_op nowhere UnaryOp.IntToShort (var_ref nowhere (codes "a") IrType.Int))))) (more_terms (log_line nowhere (binary_op nowhere BinaryOp.StringConcatenate (string_literal nowhere (codes "u9 ")) (unary_op nowhere UnaryOp.LongToInt (unary_op nowhere UnaryOp.IntToLong (var_ref nowhere (codes "a") IrType.Int))))) no_terms)))))))))) ∷ method_of Namespace.PublicStatic (m (codes "folds") [] (Some TypeRef.Void)) [] IrType.NoType (Some (block_of nowhere (more_terms (log_line nowhere (binary_op nowhere BinaryOp.StringConcatenate (string_literal nowhere (codes "f8 ")) (binary_op nowhere BinaryOp.IntAdd (int_literal nowhere (negsuc 6)) (int_literal nowhere (pos 3))))) (more_terms (log_line nowhere (binary_op nowhere BinaryOp.StringConcatenate (string_literal nowhere (codes "f9 ")) (binary_op nowhere BinaryOp.IntSubtract (int_literal nowhere (negsuc 6)) (int_literal nowhere (pos 3))))) (more_terms (log_line nowhere (binary_op nowhere BinaryOp.StringConcatenate (string_literal nowhere (codes "f10 ")) (binary_op nowhere BinaryOp.IntMultiply (int_literal nowhere (negsuc 6)) (int_literal nowhere (pos 3))))) (more_terms (log_line nowhere (binary_op nowhere BinaryOp.StringConcatenate (string_literal nowhere (codes "f11 ")) (binary_op nowhere BinaryOp.IntDivide (int_literal nowhere (negsuc 6)) (int_literal nowhere (pos 3))))) (more_terms (log_line nowhere (binary_op nowhere BinaryOp.StringConcatenate (string_literal nowhere (codes "f12 ")) (binary_op nowhere BinaryOp.IntRemainder (int_literal nowhere (negsuc 6)) (int_literal nowhere (pos 3))))) (more_terms (log_line nowhere (binary_op nowhere BinaryOp.StringConcatenate (string_literal nowhere (codes "f13 ")) (binary_op nowhere BinaryOp.IntOr (int_literal nowhere (negsuc 6)) (int_literal nowhere (pos 3))))) (more_terms (log_line nowhere (binary_op nowhere BinaryOp.StringConcatenate (string_literal nowhere (codes "f14 ")) (binary_op nowhere BinaryOp.IntAnd (int_literal nowhere (negsuc 6)) (int_literal nowhere (pos 3))))) (more_terms (log_line nowhere (binary_op nowhere BinaryOp.StringConcatenate (string_literal nowhere (codes "f15 ")) (binary_op nowhere BinaryOp.IntXor (int_literal nowhere (negsuc 6)) (int_literal nowhere (pos 3))))) (more_terms (log_line nowhere (binary_op nowhere BinaryOp.StringConcatenate (string_literal nowhere (codes "f16 ")) (binary_op nowhere BinaryOp.IntShiftLeft (int_literal nowhere (negsuc 6)) (int_literal nowhere (pos 3))))) (more_terms (log_line nowhere (binary_op nowhere BinaryOp.StringConcatenate (string_literal nowhere (codes "f17 ")) (binary_op nowhere BinaryOp.IntShiftRightLogical (int_literal nowhere (negsuc 6)) (int_literal nowhere (pos 3))))) (more_terms (log_line nowhere (binary_op nowhere BinaryOp.StringConcatenate (string_literal nowhere (codes "f18 ")) (binary_op nowhere BinaryOp.IntShiftRightArithmetic (int_literal nowhere (negsuc 6)) (int_literal nowhere (pos 3))))) (more_terms (log_line nowhere (binary_op nowhere BinaryOp.StringConcatenate (string_literal nowhere (codes "f19 ")) (binary_op nowhere BinaryOp.IntEqual (int_literal nowhere (negsuc 6)) (int_literal nowhere (pos 3))))) (more_terms (log_line nowhere (binary_op nowhere BinaryOp.StringConcatenate (string_literal nowhere (codes "f20 ")) (binary_op nowhere BinaryOp.IntNotEqual (int_literal nowhere (negsuc 6)) (int_literal nowhere (pos 3))))) (more_terms (log_line nowhere (binary_op nowhere BinaryOp.StringConcatenate (string_literal nowhere (codes "f21 ")) (binary_op nowhere BinaryOp.IntLess (int_literal nowhere (negsuc 6)) (int_literal nowhere (pos 3))))) (more_terms (log_line nowhere (binary_op nowhere BinaryOp.StringConcatenate (string_literal nowhere (codes "f22 ")) (binary_op nowhere BinaryOp.IntLessOrEqual (int_literal nowhere (negsuc 6)) (int_literal nowhere (pos 3))))) (more_terms (log_line nowhere (binary_op nowhere BinaryOp.StringConcatenate (string_literal nowhere (codes "f23 ")) (binary_op nowhere BinaryOp.IntGreater (int_literal nowhere (negsuc 6)) (int_literal nowhere (pos 3))))) (more_terms (log_line nowhere (binary_op nowhere BinaryOp.StringConcatenate (string_literal nowhere (codes "f24 ")) (binary_op nowhere BinaryOp.IntGreaterOrEqual (int_literal nowhere (negsuc 6)) (int_literal nowhere (pos 3))))) (more_terms (log_line nowhere (binary_op nowhere BinaryOp.StringConcatenate (string_literal nowhere (codes "f25 ")) (binary_op nowhere BinaryOp.LongAdd (long_literal nowhere (negsuc 6)) (long_literal nowhere (pos 3))))) (more_terms (log_line nowhere (binary_op nowhere BinaryOp.StringConcatenate (string_literal nowhere (codes "f26 ")) (binary_op nowhere BinaryOp.LongSubtract (long_literal nowhere (negsuc 6)) (long_literal nowhere (pos 3))))) (more_terms (log_line nowhere (binary_op nowhere BinaryOp.StringConcatenate (string_literal nowhere (codes "f27 ")) (binary_op nowhere BinaryOp.LongMultiply (long_literal nowhere (negsuc 6)) (long_literal nowhere (pos 3))))) (more_terms (log_line nowhere (binary_op nowhere BinaryOp.StringConcatenate (string_literal nowhere (codes "f28 ")) (binary_op nowhere BinaryOp.LongDivide (long_literal nowhere (negsuc 6)) (long_literal nowhere (pos 3))))) (more_terms (log_line nowhere (binary_op nowhere BinaryOp.StringConcatenate (string_literal nowhere (codes "f29 ")) (binary_op nowhere BinaryOp.LongRemainder (long_literal nowhere (negsuc 6)) (long_literal nowhere (pos 3))))) (more_terms (log_line nowhere (binary_op nowhere BinaryOp.StringConcatenate (string_literal nowhere (codes "f30 ")) (binary_op nowhere BinaryOp.LongOr (long_literal nowhere (negsuc 6)) (long_literal nowhere (pos 3))))) (more_terms (log_line nowhere (binary_op nowhere BinaryOp.StringConcatenate (string_literal nowhere (codes "f31 ")) (binary_op nowhere BinaryOp.LongAnd (long_literal nowhere (negsuc 6)) (long_literal nowhere (pos 3))))) (more_terms (log_line nowhere (binary_op nowhere BinaryOp.StringConcatenate (string_literal nowhere (codes "f32 ")) (binary_op nowhere BinaryOp.LongXor (long_literal nowhere (negsuc 6)) (long_literal nowhere (pos 3))))) (more_terms (log_line nowhere (binary_op nowhere BinaryOp.StringConcatenate (string_literal nowhere (codes "f33 ")) (binary_op nowhere BinaryOp.LongShiftLeft (long_literal nowhere (negsuc 6)) (int_literal nowhere (pos 3))))) (more_terms (log_line nowhere (binary_op nowhere BinaryOp.StringConcatenate (string_literal nowhere (codes "f34 ")) (binary_op nowhere BinaryOp.LongShiftRightLogical (long_literal nowhere (negsuc 6)) (int_literal nowhere (pos 3))))) (more_terms (log_line nowhere (binary_op nowhere BinaryOp.StringConcatenate (string_literal nowhere (codes "f35 ")) (binary_op nowhere BinaryOp.LongShiftRightArithmetic (long_literal nowhere (negsuc 6)) (int_literal nowhere (pos 3))))) (more_terms (log_line nowhere (binary_op nowhere BinaryOp.StringConcatenate (string_literal nowhere (codes "f36 ")) (binary_op nowhere BinaryOp.LongEqual (long_literal nowhere (negsuc 6)) (long_literal nowhere (pos 3))))) (more_terms (log_line nowhere (binary_op nowhere BinaryOp.StringConcatenate (string_literal nowhere (codes "f37 ")) (binary_op nowhere BinaryOp.LongNotEqual (long_literal nowhere (negsuc 6)) (long_literal nowhere (pos 3))))) (more_terms (log_line nowhere (binary_op nowhere BinaryOp.StringConcatenate (string_literal nowhere (codes "f38 ")) (binary_op nowhere BinaryOp.LongLess (long_literal nowhere (negsuc 6)) (long_literal nowhere (pos 3))))) (more_terms (log_line nowhere (binary_op nowhere BinaryOp.StringConcatenate (string_literal nowhere (codes "f39 ")) (binary_op nowhere BinaryOp.LongLessOrEqual (long_literal nowhere (negsuc 6)) (long_literal nowhere (pos 3))))) (more_terms (log_line nowhere (binary_op nowhere BinaryOp.StringConcatenate (string_literal nowhere (codes "f40 ")) (binary_op nowhere BinaryOp.LongGreater (long_literal nowhere (negsuc 6)) (long_literal nowhere (pos 3))))) (more_terms (log_line nowhere (binary_op nowhere BinaryOp.StringConcatenate (string_literal nowhere (codes "f41 ")) (binary_op nowhere BinaryOp.LongGreaterOrEqual (long_literal nowhere (negsuc 6)) (long_literal nowhere (pos 3))))) (more_terms (log_line nowhere (binary_op nowhere BinaryOp.StringConcatenate (string_literal nowhere (codes "f4 ")) (binary_op nowhere BinaryOp.BooleanEqual (boolean_literal nowhere true) (boolean_literal nowhere false)))) (more_terms (log_line nowhere (binary_op nowhere BinaryOp.StringConcatenate (string_literal nowhere (codes "f5 ")) (binary_op nowhere BinaryOp.BooleanNotEqual (boolean_literal nowhere true) (boolean_literal nowhere false)))) (more_terms (log_line nowhere (binary_op nowhere BinaryOp.StringConcatenate (string_literal nowhere (codes "f6 ")) (binary_op nowhere BinaryOp.BooleanOr (boolean_literal nowhere true) (boolean_literal nowhere false)))) (more_terms (log_line nowhere (binary_op nowhere BinaryOp.StringConcatenate (string_literal nowhere (codes "f7 ")) (binary_op nowhere BinaryOp.BooleanAnd (boolean_literal nowhere true) (boolean_literal nowhere false)))) no_terms)))))))))))))))))))))))))))))))))))))))) ∷ method_of Namespace.PublicStatic (m (codes "main") [] (Some TypeRef.Void)) [] IrType.NoType (Some (block_of nowhere (more_terms (apply_static nowhere (codes "java.lang.Object") Namespace.PublicStatic (m (codes "ints") (TypeRef.Int ∷ TypeRef.Int ∷ []) (Some TypeRef.Void)) (more_terms (int_literal nowhere (pos 7)) (more_terms (int_literal nowhere (negsuc 2)) no_terms)) IrType.NoType) (more_terms (apply_static nowhere (codes "java.lang.Object") Namespace.PublicStatic (m (codes "ints") (TypeRef.Int ∷ TypeRef.Int ∷ []) (Some TypeRef.Void)) (more_terms (int_literal nowhere (negsuc 2147483647)) (more_terms (int_literal nowhere (negsuc 0)) no_terms)) IrType.NoType) (more_terms (apply_static nowhere (codes "java.lang.Object") Namespace.PublicStatic (m (codes "ints") (TypeRef.Int ∷ TypeRef.Int ∷ []) (Some TypeRef.Void)) (more_terms (int_literal nowhere (pos 2147483647)) (more_terms (int_literal nowhere (pos 33)) no_terms)) IrType.NoType) (more_terms (apply_static nowhere (codes "java.lang.Object") Namespace.PublicStatic (m (codes "ints") (TypeRef.Int ∷ TypeRef.Int ∷ []) (Some TypeRef.Void)) (more_terms (int_literal nowhere (pos 5)) (more_terms (int_literal nowhere (pos 0)) no_terms)) IrType.NoType) (more_terms (apply_static nowhere (codes "java.lang.Object") Namespace.PublicStatic (m (codes "longs") (TypeRef.Long ∷ TypeRef.Long ∷ []) (Some TypeRef.Void)) (more_terms (long_literal nowhere (pos 7)) (more_terms (long_literal nowhere (negsuc 2)) no_terms)) IrType.NoType) (more_terms (apply_static nowhere (codes "java.lang.Object") Namespace.PublicStatic (m (codes "longs") (TypeRef.Long ∷ TypeRef.Long ∷ []) (Some TypeRef.Void)) (more_terms (long_literal nowhere (negsuc 9223372036854775807)) (more_terms (long_literal nowhere (negsuc 0)) no_terms)) IrType.NoType) (more_terms (apply_static nowhere (codes "java.lang.Object") Namespace.PublicStatic (m (codes "longs") (TypeRef.Long ∷ TypeRef.Long ∷ []) (Some TypeRef.Void)) (more_terms (long_literal nowhere (pos 9223372036854775807)) (more_terms (long_literal nowhere (pos 65)) no_terms)) IrType.NoType) (more_terms (apply_static nowhere (codes "java.lang.Object") Namespace.PublicStatic (m (codes "longs") (TypeRef.Long ∷ TypeRef.Long ∷ []) (Some TypeRef.Void)) (more_terms (long_literal nowhere (pos 5)) (more_terms (long_literal nowhere (pos 0)) no_terms)) IrType.NoType) (more_terms (apply_static nowhere (codes "java.lang.Object") Namespace.PublicStatic (m (codes "bools") (TypeRef.Boolean ∷ TypeRef.Boolean ∷ []) (Some TypeRef.Void)) (more_terms (boolean_literal nowhere true) (more_terms (boolean_literal nowhere true) no_terms)) IrType.NoType) (more_terms (apply_static nowhere (codes "java.lang.Object") Namespace.PublicStatic (m (codes "bools") (TypeRef.Boolean ∷ TypeRef.Boolean ∷ []) (Some TypeRef.Void)) (more_terms (boolean_literal nowhere true) (more_terms (boolean_literal nowhere false) no_terms)) IrType.NoType) (more_terms (apply_static nowhere (codes "java.lang.Object") Namespace.PublicStatic (m (codes "bools") (TypeRef.Boolean ∷ TypeRef.Boolean ∷ []) (Some TypeRef.Void)) (more_terms (boolean_literal nowhere false) (more_terms (boolean_literal nowhere true) no_terms)) IrType.NoType) (more_terms (apply_static nowhere (codes "java.lang.Object") Namespace.PublicStatic (m (codes "bools") (TypeRef.Boolean ∷ TypeRef.Boolean ∷ []) (Some TypeRef.Void)) (more_terms (boolean_literal nowhere false) (more_terms (boolean_literal nowhere false) no_terms)) IrType.NoType) (more_terms (apply_static nowhere (codes "java.lang.Object") Namespace.PublicStatic (m (codes "conv") (TypeRef.Int ∷ []) (Some TypeRef.Void)) (more_terms (int_literal nowhere (pos 97)) no_terms) IrType.NoType) (more_terms (apply_static nowhere (codes "java.lang.Object") Namespace.PublicStatic (m (codes "conv") (TypeRef.Int ∷ []) (Some TypeRef.Void)) (more_terms (int_literal nowhere (negsuc 0)) no_terms) IrType.NoType) (more_terms (apply_static nowhere (codes "java.lang.Object") Namespace.PublicStatic (m (codes "conv") (TypeRef.Int ∷ []) (Some TypeRef.Void)) (more_terms (int_literal nowhere (pos 32768)) no_terms) IrType.NoType) (more_terms (apply_static nowhere (codes "java.lang.Object") Namespace.PublicStatic (m (codes "conv") (TypeRef.Int ∷ []) (Some TypeRef.Void)) (more_terms (int_literal nowhere (pos 2147483647)) no_terms) IrType.NoType) (more_terms (apply_static nowhere (codes "java.lang.Object") Namespace.PublicStatic (m (codes "folds") [] (Some TypeRef.Void)) no_terms IrType.NoType) no_terms))))))))))))))))))) ∷ [])

abbrev pub classes : List ClassDef
classes = class_0 ∷ []

abbrev pub entries : List EntryPoint
entries = record { «module» = (codes "main"); class = (codes "java.lang.Object"); method = (codes "main") } ∷ []
