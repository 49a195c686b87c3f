-- The classes of a recorded folder, and its entries.
use Rattle.std.specs.Prelude.{List, [], ◌∷◌, true, false, pos, negsuc, codes, Some, None}
use Rattle.sj_names.specs.declared.entry_points.EntryPoint.{EntryPoint}
use Rattle.sj_names.specs.declared.method_names.Namespace.TheVariants as Namespace
use Rattle.sj_names.specs.declared.references.BaseRef.TheVariants as BaseRef
use Rattle.sj_names.specs.declared.references.TypeRef.TheVariants as TypeRef
use Rattle.sj_trees.specs.declared.classes.ClassDef.{ClassDef}
use Rattle.sj_trees.specs.declared.classes.ClassKind.TheVariants as ClassKind
use Rattle.sj_trees.specs.declared.operators.BinaryOp.TheVariants as BinaryOp
use Rattle.sj_trees.specs.declared.operators.UnaryOp.TheVariants as UnaryOp
use Rattle.sj_trees.specs.declared.types.IrType.TheVariants as IrType
use Rattle.sj_trees.specs.Term.{no_terms, more_terms, no_cases, more_cases, var_def, skip, block_of, labeled, assign, return_to, if_then, while_loop, do_while, try_catch, try_finally, throw, match_on, new_object, load_module, store_module, select, select_static, apply, apply_statically, apply_static, unary_op, binary_op, new_array, array_value, array_length, array_select, is_instance_of, as_instance_of, undefined_literal, null_literal, boolean_literal, char_literal, byte_literal, short_literal, int_literal, long_literal, string_literal, var_ref, this_ref, log_line}
use Rattle.agree_recorded_folders.specs.Words.{nowhere, no_units, m, array_of, field_of, parameter, method_of, class_with}

abbrev class_0 : ClassDef
class_0 = class_with (codes "A") ClassKind.Class (Some (codes "java.lang.Object")) [] (field_of false true (codes "z") IrType.Any ∷ field_of false true (codes "_") IrType.Undefined ∷ field_of false true (codes "a") IrType.Boolean ∷ field_of false true (codes "A") IrType.Char ∷ field_of false true (195 ∷ 169 ∷ []) IrType.Byte ∷ field_of false true (codes "a_") IrType.Short ∷ field_of false true (codes "b") IrType.Int ∷ field_of false true (codes "c") IrType.Long ∷ field_of false true (codes "d") IrType.String ∷ field_of false true (codes "x-y") IrType.Null ∷ field_of false true (codes "k") (IrType.Class (codes "A")) ∷ field_of false true (codes "$") (IrType.Array (array_of 1 BaseRef.Int)) ∷ []) (method_of Namespace.Constructor (m (codes "<init>") [] (Some TypeRef.Void)) [] IrType.NoType (Some (block_of nowhere (more_terms (apply_statically nowhere (this_ref nowhere (IrType.Class (codes "A"))) (codes "java.lang.Object") Namespace.Constructor (m (codes "<init>") [] (Some TypeRef.Void)) no_terms IrType.NoType) (more_terms (assign nowhere (select nowhere (this_ref nowhere (IrType.Class (codes "A"))) (codes "A") (codes "c") IrType.Long) (long_literal nowhere (pos 1))) no_terms)))) ∷ [])

abbrev class_1 : ClassDef
class_1 = class_with (codes "T") ClassKind.Class (Some (codes "java.lang.Object")) [] (field_of true true (codes "z") IrType.Any ∷ field_of true true (codes "_") IrType.Undefined ∷ field_of true true (codes "a") IrType.Boolean ∷ field_of true true (codes "A") IrType.Char ∷ field_of true true (195 ∷ 169 ∷ []) IrType.Byte ∷ field_of true true (codes "a_") IrType.Short ∷ field_of true true (codes "b") IrType.Int ∷ field_of true true (codes "c") IrType.Long ∷ field_of true true (codes "d") IrType.String ∷ field_of true true (codes "x-y") IrType.Null ∷ field_of true true (codes "k") (IrType.Class (codes "A")) ∷ field_of true true (codes "$") (IrType.Array (array_of 1 BaseRef.Int)) ∷ []) []

abbrev class_2 : ClassDef
class_2 = class_with (codes "java.lang.Object") ClassKind.Class None [] [] (method_of Namespace.Constructor (m (codes "<init>") [] (Some TypeRef.Void)) [] IrType.NoType (Some (skip nowhere)) ∷ method_of Namespace.PublicStatic (m (codes "main") [] (Some TypeRef.Void)) [] IrType.NoType (Some (block_of nowhere (more_terms (var_def nowhere (codes "a") (IrType.Class (codes "A")) false (new_object nowhere (codes "A") (m (codes "<init>") [] (Some TypeRef.Void)) no_terms)) (more_terms (assign nowhere (select nowhere (var_ref nowhere (codes "a") (IrType.Class (codes "A"))) (codes "A") (codes "b") IrType.Int) (int_literal nowhere (pos 4))) (more_terms (log_line nowhere (binary_op nowhere BinaryOp.StringConcatenate (string_literal nowhere no_units) (select nowhere (var_ref nowhere (codes "a") (IrType.Class (codes "A"))) (codes "A") (codes "b") IrType.Int))) (more_terms (assign nowhere (select_static nowhere (codes "T") (codes "z") IrType.Any) (select nowhere (var_ref nowhere (codes "a") (IrType.Class (codes "A"))) (codes "A") (codes "z") IrType.Any)) (more_terms (assign nowhere (select_static nowhere (codes "T") (codes "_") IrType.Undefined) (select nowhere (var_ref nowhere (codes "a") (IrType.Class (codes "A"))) (codes "A") (codes "_") IrType.Undefined)) (more_terms (assign nowhere (select_static nowhere (codes "T") (codes "a") IrType.Boolean) (select nowhere (var_ref nowhere (codes "a") (IrType.Class (codes "A"))) (codes "A") (codes "a") IrType.Boolean)) (more_terms (assign nowhere (select_static nowhere (codes "T") (codes "A") IrType.Char) (select nowhere (var_ref nowhere (codes "a") (IrType.Class (codes "A"))) (codes "A") (codes "A") IrType.Char)) (more_terms (assign nowhere (select_static nowhere (codes "T") (195 ∷ 169 ∷ []) IrType.Byte) (select nowhere (var_ref nowhere (codes "a") (IrType.Class (codes "A"))) (codes "A") (195 ∷ 169 ∷ []) IrType.Byte)) (more_terms (assign nowhere (select_static nowhere (codes "T") (codes "a_") IrType.Short) (select nowhere (var_ref nowhere (codes "a") (IrType.Class (codes "A"))) (codes "A") (codes "a_") IrType.Short)) (more_terms (assign nowhere (select_static nowhere (codes "T") (codes "b") IrType.Int) (select nowhere (var_ref nowhere (codes "a") (IrType.Class (codes "A"))) (codes "A") (codes "b") IrType.Int)) (more_terms (assign nowhere (select_static nowhere (codes "T") (codes "c") IrType.Long) (select nowhere (var_ref nowhere (codes "a") (IrType.Class (codes "A"))) (codes "A") (codes "c") IrType.Long)) (more_terms (assign nowhere (select_static nowhere (codes "T") (codes "d") IrType.String) (select nowhere (var_ref nowhere (codes "a") (IrType.Class (codes "A"))) (codes "A") (codes "d") IrType.String)) (more_terms (assign nowhere (select_static nowhere (codes "T") (codes "x-y") IrType.Null) (select nowhere (var_ref nowhere (codes "a") (IrType.Class (codes "A"))) (codes "A") (codes "x-y") IrType.Null)) (more_terms (assign nowhere (select_static nowhere (codes "T") (codes "k") (IrType.Class (codes "A"))) (select nowhere (var_ref nowhere (codes "a") (IrType.Class (codes "A"))) (codes "A") (codes "k") (IrType.Class (codes "A")))) (more_terms (assign nowhere (select_static nowhere (codes "T") (codes "$") (IrType.Array (array_of 1 BaseRef.Int))) (select nowhere (var_ref nowhere (codes "a") (IrType.Class (codes "A"))) (codes "A") (codes "$") (IrType.Array (array_of 1 BaseRef.Int)))) no_terms))))))))))))))))) ∷ [])

abbrev pub classes : List ClassDef
classes = class_0 ∷ class_1 ∷ class_2 ∷ []

abbrev pub entries : List EntryPoint
entries = record { «module» = (codes "main"); class = (codes "java.lang.Object"); method = (codes "main") } ∷ []
