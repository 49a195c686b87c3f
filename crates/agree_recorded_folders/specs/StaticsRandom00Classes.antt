-- The classes of a recorded folder, and its entries.
use Rattle.std.specs.Prelude.{List, [], ◌∷◌, true, false, pos, negsuc, codes, Some, None}
use Rattle.sj_names.specs.declared.entry_points.EntryPoint.{EntryPoint}
use Rattle.sj_names.specs.declared.method_names.Namespace.TheVariants as Namespace
use Rattle.sj_names.specs.declared.references.BaseRef.TheVariants as BaseRef
use Rattle.sj_names.specs.declared.references.TypeRef.TheVariants as TypeRef
use Rattle.sj_trees.specs.declared.classes.ClassDef.{ClassDef}
use Rattle.sj_trees.specs.declared.classes.ClassKind.TheVariants as ClassKind
use Rattle.sj_trees.specs.declared.operators.BinaryOp.TheVariants as BinaryOp
use Rattle.sj_trees.specs.declared.operators.UnaryOp.TheVariants as UnaryOp
use Rattle.sj_trees.specs.declared.types.IrType.TheVariants as IrType
use Rattle.sj_trees.specs.Term.{no_terms, more_terms, no_cases, more_cases, var_def, skip, block_of, labeled, assign, return_to, if_then, while_loop, do_while, try_catch, try_finally, throw, match_on, new_object, load_module, store_module, select, select_static, apply, apply_statically, apply_static, unary_op, binary_op, new_array, array_value, array_length, array_select, is_instance_of, as_instance_of, undefined_literal, null_literal, boolean_literal, char_literal, byte_literal, short_literal, int_literal, long_literal, string_literal, var_ref, this_ref, log_line}
use Rattle.agree_recorded_folders.specs.Words.{nowhere, no_units, m, array_of, field_of, parameter, method_of, class_with}

abbrev class_0 : ClassDef
class_0 = class_with (codes "A") ClassKind.Class (Some (codes "java.lang.Object")) [] (field_of false true (103 ∷ 195 ∷ 169 ∷ []) IrType.Any ∷ []) (method_of Namespace.PublicStatic (m (codes "h_0") [] (Some (TypeRef.Class (codes "java.lang.Object")))) [] IrType.Any (Some (null_literal nowhere)) ∷ method_of Namespace.PublicStatic (m (195 ∷ 169 ∷ 52 ∷ []) (TypeRef.Byte ∷ TypeRef.Int ∷ TypeRef.Byte ∷ []) (Some TypeRef.Boolean)) (parameter (codes "_") true IrType.Byte ∷ parameter (codes "this") false IrType.Int ∷ parameter (codes "$this") false IrType.Byte ∷ []) IrType.Boolean (Some (binary_op nowhere BinaryOp.BooleanAnd (boolean_literal nowhere false) (block_of nowhere (more_terms (log_line nowhere (string_literal nowhere (codes "e5"))) (more_terms (unary_op nowhere UnaryOp.BooleanNot (if_then nowhere (boolean_literal nowhere false) (boolean_literal nowhere false) (boolean_literal nowhere false) IrType.Boolean)) no_terms))))) ∷ [])

abbrev class_1 : ClassDef
class_1 = class_with (codes "Z") ClassKind.Class (Some (codes "java.lang.Object")) [] [] (method_of Namespace.PrivateStatic (m (codes "g1") (TypeRef.Byte ∷ TypeRef.Long ∷ (TypeRef.Class (codes "java.lang.Object")) ∷ []) (Some TypeRef.Void)) (parameter (codes "x1") true IrType.Byte ∷ parameter (codes "$1") false IrType.Long ∷ parameter (codes "x_") true IrType.Any ∷ []) IrType.NoType (Some (block_of nowhere (more_terms (block_of nowhere (more_terms (var_def nowhere (codes "$this") IrType.Int true (int_literal nowhere (pos 0))) (more_terms (while_loop nowhere (binary_op nowhere BinaryOp.IntLess (var_ref nowhere (codes "$this") IrType.Int) (int_literal nowhere (pos 3))) (block_of nowhere (more_terms (assign nowhere (var_ref nowhere (codes "$this") IrType.Int) (binary_op nowhere BinaryOp.IntAdd (var_ref nowhere (codes "$this") IrType.Int) (int_literal nowhere (pos 1)))) (more_terms (block_of nowhere (more_terms (log_line nowhere (binary_op nowhere BinaryOp.StringConcatenate (undefined_literal nowhere) (char_literal nowhere 65535))) (more_terms (var_def nowhere (codes "console") IrType.Int true (block_of nowhere (more_terms (log_line nowhere (string_literal nowhere (codes "t"))) (more_terms (var_ref nowhere (codes "$this") IrType.Int) no_terms)))) no_terms))) no_terms)))) no_terms))) (more_terms (block_of nowhere (more_terms (var_def nowhere (codes "x$1") IrType.Int true (int_literal nowhere (pos 0))) (more_terms (while_loop nowhere (binary_op nowhere BinaryOp.IntLess (var_ref nowhere (codes "x$1") IrType.Int) (int_literal nowhere (pos 1))) (block_of nowhere (more_terms (assign nowhere (var_ref nowhere (codes "x$1") IrType.Int) (binary_op nowhere BinaryOp.IntAdd (var_ref nowhere (codes "x$1") IrType.Int) (int_literal nowhere (pos 1)))) (more_terms (block_of nowhere (more_terms (var_def nowhere (codes "break") IrType.Int true (int_literal nowhere (pos 0))) (more_terms (while_loop nowhere (binary_op nowhere BinaryOp.IntLess (var_ref nowhere (codes "break") IrType.Int) (int_literal nowhere (pos 1))) (block_of nowhere (more_terms (assign nowhere (var_ref nowhere (codes "break") IrType.Int) (binary_op nowhere BinaryOp.IntAdd (var_ref nowhere (codes "break") IrType.Int) (int_literal nowhere (pos 1)))) (more_terms (block_of nowhere (more_terms (var_def nowhere (codes "k") IrType.String false (string_literal nowhere (codes "a"))) no_terms)) no_terms)))) no_terms))) no_terms)))) no_terms))) no_terms)))) ∷ method_of Namespace.PublicStatic (m (codes "main") [] (Some TypeRef.Void)) [] IrType.NoType (Some (block_of nowhere (more_terms (log_line nowhere (string_literal nowhere (codes "main"))) (more_terms (log_line nowhere (binary_op nowhere BinaryOp.StringConcatenate (string_literal nowhere (codes "= ")) (apply_static nowhere (codes "java.lang.Object") Namespace.PublicStatic (m (195 ∷ 169 ∷ 51 ∷ []) (TypeRef.Long ∷ TypeRef.Byte ∷ TypeRef.Int ∷ []) (Some TypeRef.Char)) (more_terms (long_literal nowhere (pos 63)) (more_terms (byte_literal nowhere (pos 1)) (more_terms (int_literal nowhere (pos 0)) no_terms))) IrType.Char))) (more_terms (block_of nowhere (more_terms (var_def nowhere (codes "a0") IrType.Long true (if_then nowhere (boolean_literal nowhere false) (labeled nowhere (195 ∷ 169 ∷ []) IrType.Long (block_of nowhere (more_terms (if_then nowhere (boolean_literal nowhere true) (return_to nowhere (long_literal nowhere (pos 4611686018427387904)) (195 ∷ 169 ∷ [])) (skip nowhere) IrType.NoType) (more_terms (return_to nowhere (binary_op nowhere BinaryOp.LongAnd (long_literal nowhere (negsuc 0)) (long_literal nowhere (pos 63))) (195 ∷ 169 ∷ [])) no_terms)))) (binary_op nowhere BinaryOp.LongRemainder (long_literal nowhere (pos 1234567890123456789)) (long_literal nowhere (pos 4611686018427387904))) IrType.Long)) (more_terms (log_line nowhere (string_literal nowhere (233 ∷ 55357 ∷ 56832 ∷ []))) no_terms))) no_terms))))) ∷ method_of Namespace.Public (m (codes "un") [] (Some TypeRef.Void)) [] IrType.NoType (Some (log_line nowhere (int_literal nowhere (pos 1)))) ∷ [])

abbrev class_2 : ClassDef
class_2 = class_with (codes "java.lang.Object") ClassKind.Class None [] (field_of true true (103 ∷ 195 ∷ 169 ∷ []) IrType.Any ∷ []) (method_of Namespace.PublicStatic (m (195 ∷ 169 ∷ 51 ∷ []) (TypeRef.Long ∷ TypeRef.Byte ∷ TypeRef.Int ∷ []) (Some TypeRef.Char)) (parameter (codes "_") false IrType.Long ∷ parameter (codes "$this") false IrType.Byte ∷ parameter (codes "x") true IrType.Int ∷ []) IrType.Char (Some (labeled nowhere (codes "l_1") IrType.Char (block_of nowhere (more_terms (if_then nowhere (if_then nowhere (boolean_literal nowhere true) (binary_op nowhere BinaryOp.IntGreater (int_literal nowhere (negsuc 32768)) (var_ref nowhere (codes "x") IrType.Int)) (binary_op nowhere BinaryOp.BooleanNotEqual (boolean_literal nowhere true) (boolean_literal nowhere true)) IrType.Boolean) (block_of nowhere (more_terms (log_line nowhere (string_literal nowhere (codes "null"))) (more_terms (var_def nowhere (codes "x1") IrType.Int false (var_ref nowhere (codes "x") IrType.Int)) no_terms))) (skip nowhere) IrType.NoType) (more_terms (if_then nowhere (if_then nowhere (unary_op nowhere UnaryOp.BooleanNot (boolean_literal nowhere false)) (binary_op nowhere BinaryOp.LongGreater (long_literal nowhere (pos 63)) (var_ref nowhere (codes "_") IrType.Long)) (boolean_literal nowhere true) IrType.Boolean) (block_of nowhere (more_terms (skip nowhere) (more_terms (var_def nowhere (codes "_$") IrType.Int true (int_literal nowhere (pos 1))) no_terms))) (skip nowhere) IrType.NoType) (more_terms (char_literal nowhere 34) no_terms)))))) ∷ method_of Namespace.PublicStatic (m (codes "h_2") (TypeRef.Int ∷ []) (Some TypeRef.Char)) (parameter (195 ∷ 169 ∷ []) true IrType.Int ∷ []) IrType.Char (Some (char_literal nowhere 55296)) ∷ [])

abbrev pub classes : List ClassDef
classes = class_0 ∷ class_1 ∷ class_2 ∷ []

abbrev pub entries : List EntryPoint
entries = record { «module» = (codes "main"); class = (codes "Z"); method = (codes "main") } ∷ []
