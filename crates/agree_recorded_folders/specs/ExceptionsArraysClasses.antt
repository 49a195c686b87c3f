-- The classes of a recorded folder, and its entries.
use Rattle.std.specs.Prelude.{List, [], ◌∷◌, true, false, pos, negsuc, codes, Some, None}
use Rattle.sj_names.specs.declared.entry_points.EntryPoint.{EntryPoint}
use Rattle.sj_names.specs.declared.method_names.Namespace.TheVariants as Namespace
use Rattle.sj_names.specs.declared.references.BaseRef.TheVariants as BaseRef
use Rattle.sj_names.specs.declared.references.TypeRef.TheVariants as TypeRef
use Rattle.sj_trees.specs.declared.classes.ClassDef.{ClassDef}
use Rattle.sj_trees.specs.declared.classes.ClassKind.TheVariants as ClassKind
use Rattle.sj_trees.specs.declared.operators.BinaryOp.TheVariants as BinaryOp
use Rattle.sj_trees.specs.declared.operators.UnaryOp.TheVariants as UnaryOp
use Rattle.sj_trees.specs.declared.types.IrType.TheVariants as IrType
use Rattle.sj_trees.specs.Term.{no_terms, more_terms, no_cases, more_cases, var_def, skip, block_of, labeled, assign, return_to, if_then, while_loop, do_while, try_catch, try_finally, throw, match_on, new_object, load_module, store_module, select, select_static, apply, apply_statically, apply_static, unary_op, binary_op, new_array, array_value, array_length, array_select, is_instance_of, as_instance_of, undefined_literal, null_literal, boolean_literal, char_literal, byte_literal, short_literal, int_literal, long_literal, string_literal, var_ref, this_ref, log_line}
use Rattle.agree_recorded_folders.specs.Words.{nowhere, no_units, m, array_of, field_of, parameter, method_of, class_with}

abbrev class_0 : ClassDef
class_0 = class_with (codes "A") ClassKind.Class (Some (codes "java.lang.Object")) [] [] (method_of Namespace.Constructor (m (codes "<init>") [] (Some TypeRef.Void)) [] IrType.NoType (Some (apply_statically nowhere (this_ref nowhere (IrType.Class (codes "A"))) (codes "java.lang.Object") Namespace.Constructor (m (codes "<init>") [] (Some TypeRef.Void)) no_terms IrType.NoType)) ∷ [])

abbrev class_1 : ClassDef
class_1 = class_with (codes "java.lang.ArrayIndexOutOfBoundsException") ClassKind.Class (Some (codes "java.lang.Throwable")) [] [] (method_of Namespace.Constructor (m (codes "<init>") ((TypeRef.Class (codes "java.lang.String")) ∷ []) (Some TypeRef.Void)) (parameter (codes "m") false (IrType.Class (codes "java.lang.String")) ∷ []) IrType.NoType (Some (apply_statically nowhere (this_ref nowhere (IrType.Class (codes "java.lang.ArrayIndexOutOfBoundsException"))) (codes "java.lang.Throwable") Namespace.Constructor (m (codes "<init>") ((TypeRef.Class (codes "java.lang.String")) ∷ []) (Some TypeRef.Void)) (more_terms (var_ref nowhere (codes "m") (IrType.Class (codes "java.lang.String"))) no_terms) IrType.NoType)) ∷ [])

abbrev class_2 : ClassDef
class_2 = class_with (codes "java.lang.ArrayStoreException") ClassKind.Class (Some (codes "java.lang.Throwable")) [] [] (method_of Namespace.Constructor (m (codes "<init>") ((TypeRef.Class (codes "java.lang.String")) ∷ []) (Some TypeRef.Void)) (parameter (codes "m") false (IrType.Class (codes "java.lang.String")) ∷ []) IrType.NoType (Some (apply_statically nowhere (this_ref nowhere (IrType.Class (codes "java.lang.ArrayStoreException"))) (codes "java.lang.Throwable") Namespace.Constructor (m (codes "<init>") ((TypeRef.Class (codes "java.lang.String")) ∷ []) (Some TypeRef.Void)) (more_terms (var_ref nowhere (codes "m") (IrType.Class (codes "java.lang.String"))) no_terms) IrType.NoType)) ∷ [])

abbrev class_3 : ClassDef
class_3 = class_with (codes "java.lang.NegativeArraySizeException") ClassKind.Class (Some (codes "java.lang.Throwable")) [] [] (method_of Namespace.Constructor (m (codes "<init>") ((TypeRef.Class (codes "java.lang.String")) ∷ []) (Some TypeRef.Void)) (parameter (codes "m") false (IrType.Class (codes "java.lang.String")) ∷ []) IrType.NoType (Some (apply_statically nowhere (this_ref nowhere (IrType.Class (codes "java.lang.NegativeArraySizeException"))) (codes "java.lang.Throwable") Namespace.Constructor (m (codes "<init>") ((TypeRef.Class (codes "java.lang.String")) ∷ []) (Some TypeRef.Void)) (more_terms (var_ref nowhere (codes "m") (IrType.Class (codes "java.lang.String"))) no_terms) IrType.NoType)) ∷ [])

abbrev class_4 : ClassDef
class_4 = class_with (codes "java.lang.NullPointerException") ClassKind.Class (Some (codes "java.lang.Throwable")) [] [] (method_of Namespace.Constructor (m (codes "<init>") ((TypeRef.Class (codes "java.lang.String")) ∷ []) (Some TypeRef.Void)) (parameter (codes "m") false (IrType.Class (codes "java.lang.String")) ∷ []) IrType.NoType (Some (apply_statically nowhere (this_ref nowhere (IrType.Class (codes "java.lang.NullPointerException"))) (codes "java.lang.Throwable") Namespace.Constructor (m (codes "<init>") ((TypeRef.Class (codes "java.lang.String")) ∷ []) (Some TypeRef.Void)) (more_terms (var_ref nowhere (codes "m") (IrType.Class (codes "java.lang.String"))) no_terms) IrType.NoType)) ∷ [])

abbrev class_5 : ClassDef
class_5 = class_with (codes "java.lang.Object") ClassKind.Class None [] [] (method_of Namespace.Constructor (m (codes "<init>") [] (Some TypeRef.Void)) [] IrType.NoType (Some (skip nowhere)) ∷ method_of Namespace.PublicStatic (m (codes "main") [] (Some TypeRef.Void)) [] IrType.NoType (Some (block_of nowhere (more_terms (block_of nowhere (more_terms (var_def nowhere (codes "x0") (IrType.Array (array_of 1 BaseRef.Boolean)) false (new_array nowhere (array_of 1 BaseRef.Boolean) (int_literal nowhere (pos 1)))) (more_terms (assign nowhere (array_select nowhere (var_ref nowhere (codes "x0") (IrType.Array (array_of 1 BaseRef.Boolean))) (int_literal nowhere (pos 0)) IrType.Boolean) (boolean_literal nowhere true)) (more_terms (log_line nowhere (binary_op nowhere BinaryOp.StringConcatenate (string_literal nowhere no_units) (array_length nowhere (var_ref nowhere (codes "x0") (IrType.Array (array_of 1 BaseRef.Boolean)))))) (more_terms (log_line nowhere (binary_op nowhere BinaryOp.StringConcatenate (string_literal nowhere no_units) (binary_op nowhere BinaryOp.StrictEqual (array_select nowhere (var_ref nowhere (codes "x0") (IrType.Array (array_of 1 BaseRef.Boolean))) (int_literal nowhere (pos 0)) IrType.Boolean) (boolean_literal nowhere true)))) no_terms))))) (more_terms (block_of nowhere (more_terms (var_def nowhere (codes "x1") (IrType.Array (array_of 1 BaseRef.Char)) false (new_array nowhere (array_of 1 BaseRef.Char) (int_literal nowhere (pos 1)))) (more_terms (assign nowhere (array_select nowhere (var_ref nowhere (codes "x1") (IrType.Array (array_of 1 BaseRef.Char))) (int_literal nowhere (pos 0)) IrType.Char) (char_literal nowhere 99)) (more_terms (log_line nowhere (binary_op nowhere BinaryOp.StringConcatenate (string_literal nowhere no_units) (array_length nowhere (var_ref nowhere (codes "x1") (IrType.Array (array_of 1 BaseRef.Char)))))) (more_terms (log_line nowhere (binary_op nowhere BinaryOp.StringConcatenate (string_literal nowhere no_units) (binary_op nowhere BinaryOp.StrictEqual (array_select nowhere (var_ref nowhere (codes "x1") (IrType.Array (array_of 1 BaseRef.Char))) (int_literal nowhere (pos 0)) IrType.Char) (char_literal nowhere 99)))) no_terms))))) (more_terms (block_of nowhere (more_terms (var_def nowhere (codes "x2") (IrType.Array (array_of 1 BaseRef.Byte)) false (new_array nowhere (array_of 1 BaseRef.Byte) (int_literal nowhere (pos 1)))) (more_terms (assign nowhere (array_select nowhere (var_ref nowhere (codes "x2") (IrType.Array (array_of 1 BaseRef.Byte))) (int_literal nowhere (pos 0)) IrType.Byte) (byte_literal nowhere (pos 1))) (more_terms (log_line nowhere (binary_op nowhere BinaryOp.StringConcatenate (string_literal nowhere no_units) (array_length nowhere (var_ref nowhere (codes "x2") (IrType.Array (array_of 1 BaseRef.Byte)))))) (more_terms (log_line nowhere (binary_op nowhere BinaryOp.StringConcatenate (string_literal nowhere no_units) (binary_op nowhere BinaryOp.StrictEqual (array_select nowhere (var_ref nowhere (codes "x2") (IrType.Array (array_of 1 BaseRef.Byte))) (int_literal nowhere (pos 0)) IrType.Byte) (byte_literal nowhere (pos 1))))) no_terms))))) (more_terms (block_of nowhere (more_terms (var_def nowhere (codes "x3") (IrType.Array (array_of 1 BaseRef.Short)) false (new_array nowhere (array_of 1 BaseRef.Short) (int_literal nowhere (pos 1)))) (more_terms (assign nowhere (array_select nowhere (var_ref nowhere (codes "x3") (IrType.Array (array_of 1 BaseRef.Short))) (int_literal nowhere (pos 0)) IrType.Short) (short_literal nowhere (pos 2))) (more_terms (log_line nowhere (binary_op nowhere BinaryOp.StringConcatenate (string_literal nowhere no_units) (array_length nowhere (var_ref nowhere (codes "x3") (IrType.Array (array_of 1 BaseRef.Short)))))) (more_terms (log_line nowhere (binary_op nowhere BinaryOp.StringConcatenate (string_literal nowhere no_units) (binary_op nowhere BinaryOp.StrictEqual (array_select nowhere (var_ref nowhere (codes "x3") (IrType.Array (array_of 1 BaseRef.Short))) (int_literal nowhere (pos 0)) IrType.Short) (short_literal nowhere (pos 2))))) no_terms))))) (more_terms (block_of nowhere (more_terms (var_def nowhere (codes "x4") (IrType.Array (array_of 1 BaseRef.Int)) false (new_array nowhere (array_of 1 BaseRef.Int) (int_literal nowhere (pos 1)))) (more_terms (assign nowhere (array_select nowhere (var_ref nowhere (codes "x4") (IrType.Array (array_of 1 BaseRef.Int))) (int_literal nowhere (pos 0)) IrType.Int) (int_literal nowhere (pos 3))) (more_terms (log_line nowhere (binary_op nowhere BinaryOp.StringConcatenate (string_literal nowhere no_units) (array_length nowhere (var_ref nowhere (codes "x4") (IrType.Array (array_of 1 BaseRef.Int)))))) (more_terms (log_line nowhere (binary_op nowhere BinaryOp.StringConcatenate (string_literal nowhere no_units) (binary_op nowhere BinaryOp.StrictEqual (array_select nowhere (var_ref nowhere (codes "x4") (IrType.Array (array_of 1 BaseRef.Int))) (int_literal nowhere (pos 0)) IrType.Int) (int_literal nowhere (pos 3))))) no_terms))))) (more_terms (block_of nowhere (more_terms (var_def nowhere (codes "x5") (IrType.Array (array_of 1 BaseRef.Long)) false (new_array nowhere (array_of 1 BaseRef.Long) (int_literal nowhere (pos 1)))) (more_terms (assign nowhere (array_select nowhere (var_ref nowhere (codes "x5") (IrType.Array (array_of 1 BaseRef.Long))) (int_literal nowhere (pos 0)) IrType.Long) (long_literal nowhere (pos 4))) (more_terms (log_line nowhere (binary_op nowhere BinaryOp.StringConcatenate (string_literal nowhere no_units) (array_length nowhere (var_ref nowhere (codes "x5") (IrType.Array (array_of 1 BaseRef.Long)))))) (more_terms (log_line nowhere (binary_op nowhere BinaryOp.StringConcatenate (string_literal nowhere no_units) (binary_op nowhere BinaryOp.StrictEqual (array_select nowhere (var_ref nowhere (codes "x5") (IrType.Array (array_of 1 BaseRef.Long))) (int_literal nowhere (pos 0)) IrType.Long) (long_literal nowhere (pos 4))))) no_terms))))) (more_terms (block_of nowhere (more_terms (var_def nowhere (codes "x6") (IrType.Array (array_of 1 (BaseRef.Class (codes "java.lang.String")))) false (new_array nowhere (array_of 1 (BaseRef.Class (codes "java.lang.String"))) (int_literal nowhere (pos 1)))) (more_terms (assign nowhere (array_select nowhere (var_ref nowhere (codes "x6") (IrType.Array (array_of 1 (BaseRef.Class (codes "java.lang.String"))))) (int_literal nowhere (pos 0)) (IrType.Class (codes "java.lang.String"))) (string_literal nowhere (codes "s"))) (more_terms (log_line nowhere (binary_op nowhere BinaryOp.StringConcatenate (string_literal nowhere no_units) (array_length nowhere (var_ref nowhere (codes "x6") (IrType.Array (array_of 1 (BaseRef.Class (codes "java.lang.String")))))))) (more_terms (log_line nowhere (binary_op nowhere BinaryOp.StringConcatenate (string_literal nowhere no_units) (binary_op nowhere BinaryOp.StrictEqual (array_select nowhere (var_ref nowhere (codes "x6") (IrType.Array (array_of 1 (BaseRef.Class (codes "java.lang.String"))))) (int_literal nowhere (pos 0)) (IrType.Class (codes "java.lang.String"))) (string_literal nowhere (codes "s"))))) no_terms))))) (more_terms (block_of nowhere (more_terms (var_def nowhere (codes "x7") (IrType.Array (array_of 1 (BaseRef.Class (codes "A")))) false (new_array nowhere (array_of 1 (BaseRef.Class (codes "A"))) (int_literal nowhere (pos 1)))) (more_terms (assign nowhere (array_select nowhere (var_ref nowhere (codes "x7") (IrType.Array (array_of 1 (BaseRef.Class (codes "A"))))) (int_literal nowhere (pos 0)) (IrType.Class (codes "A"))) (new_object nowhere (codes "A") (m (codes "<init>") [] (Some TypeRef.Void)) no_terms)) (more_terms (log_line nowhere (binary_op nowhere BinaryOp.StringConcatenate (string_literal nowhere no_units) (array_length nowhere (var_ref nowhere (codes "x7") (IrType.Array (array_of 1 (BaseRef.Class (codes "A")))))))) (more_terms (log_line nowhere (binary_op nowhere BinaryOp.StringConcatenate (string_literal nowhere no_units) (binary_op nowhere BinaryOp.StrictEqual (array_select nowhere (var_ref nowhere (codes "x7") (IrType.Array (array_of 1 (BaseRef.Class (codes "A"))))) (int_literal nowhere (pos 0)) (IrType.Class (codes "A"))) (new_object nowhere (codes "A") (m (codes "<init>") [] (Some TypeRef.Void)) no_terms)))) no_terms))))) (more_terms (block_of nowhere (more_terms (var_def nowhere (codes "x8") (IrType.Array (array_of 2 BaseRef.Int)) false (new_array nowhere (array_of 2 BaseRef.Int) (int_literal nowhere (pos 1)))) (more_terms (assign nowhere (array_select nowhere (var_ref nowhere (codes "x8") (IrType.Array (array_of 2 BaseRef.Int))) (int_literal nowhere (pos 0)) (IrType.Array (array_of 1 BaseRef.Int))) (null_literal nowhere)) (more_terms (log_line nowhere (binary_op nowhere BinaryOp.StringConcatenate (string_literal nowhere no_units) (array_length nowhere (var_ref nowhere (codes "x8") (IrType.Array (array_of 2 BaseRef.Int)))))) (more_terms (log_line nowhere (binary_op nowhere BinaryOp.StringConcatenate (string_literal nowhere no_units) (binary_op nowhere BinaryOp.StrictEqual (array_select nowhere (var_ref nowhere (codes "x8") (IrType.Array (array_of 2 BaseRef.Int))) (int_literal nowhere (pos 0)) (IrType.Array (array_of 1 BaseRef.Int))) (null_literal nowhere)))) no_terms))))) (more_terms (block_of nowhere (more_terms (var_def nowhere (codes "x9") (IrType.Array (array_of 1 (BaseRef.Class (codes "java.lang.Object")))) false (new_array nowhere (array_of 1 (BaseRef.Class (codes "java.lang.Object"))) (int_literal nowhere (pos 1)))) (more_terms (assign nowhere (array_select nowhere (var_ref nowhere (codes "x9") (IrType.Array (array_of 1 (BaseRef.Class (codes "java.lang.Object"))))) (int_literal nowhere (pos 0)) IrType.Any) (char_literal nowhere 111)) (more_terms (log_line nowhere (binary_op nowhere BinaryOp.StringConcatenate (string_literal nowhere no_units) (array_length nowhere (var_ref nowhere (codes "x9") (IrType.Array (array_of 1 (BaseRef.Class (codes "java.lang.Object")))))))) (more_terms (log_line nowhere (binary_op nowhere BinaryOp.StringConcatenate (string_literal nowhere no_units) (binary_op nowhere BinaryOp.StrictEqual (array_select nowhere (var_ref nowhere (codes "x9") (IrType.Array (array_of 1 (BaseRef.Class (codes "java.lang.Object"))))) (int_literal nowhere (pos 0)) IrType.Any) (char_literal nowhere 111)))) no_terms))))) no_terms)))))))))))) ∷ [])

abbrev class_6 : ClassDef
class_6 = class_with (codes "java.lang.String") ClassKind.HijackedClass (Some (codes "java.lang.Object")) [] [] []

abbrev class_7 : ClassDef
class_7 = class_with (codes "java.lang.Throwable") ClassKind.Class (Some (codes "java.lang.Object")) [] (field_of false true (codes "message") (IrType.Class (codes "java.lang.String")) ∷ []) (method_of Namespace.Constructor (m (codes "<init>") ((TypeRef.Class (codes "java.lang.String")) ∷ []) (Some TypeRef.Void)) (parameter (codes "m") false (IrType.Class (codes "java.lang.String")) ∷ []) IrType.NoType (Some (block_of nowhere (more_terms (apply_statically nowhere (this_ref nowhere (IrType.Class (codes "java.lang.Throwable"))) (codes "java.lang.Object") Namespace.Constructor (m (codes "<init>") [] (Some TypeRef.Void)) no_terms IrType.NoType) (more_terms (assign nowhere (select nowhere (this_ref nowhere (IrType.Class (codes "java.lang.Throwable"))) (codes "java.lang.Throwable") (codes "message") (IrType.Class (codes "java.lang.String"))) (var_ref nowhere (codes "m") (IrType.Class (codes "java.lang.String")))) no_terms)))) ∷ method_of Namespace.Public (m (codes "getMessage") [] (Some (TypeRef.Class (codes "java.lang.String")))) [] (IrType.Class (codes "java.lang.String")) (Some (select nowhere (this_ref nowhere (IrType.Class (codes "java.lang.Throwable"))) (codes "java.lang.Throwable") (codes "message") (IrType.Class (codes "java.lang.String")))) ∷ [])

abbrev pub classes : List ClassDef
classes = class_0 ∷ class_1 ∷ class_2 ∷ class_3 ∷ class_4 ∷ class_5 ∷ class_6 ∷ class_7 ∷ []

abbrev pub entries : List EntryPoint
entries = record { «module» = (codes "main"); class = (codes "java.lang.Object"); method = (codes "main") } ∷ []
