-- The classes of a recorded folder, and its entries.
use Rattle.std.specs.Prelude.{List, [], ◌∷◌, true, false, pos, negsuc, codes, Some, None}
use Rattle.sj_names.specs.declared.entry_points.EntryPoint.{EntryPoint}
use Rattle.sj_names.specs.declared.method_names.Namespace.TheVariants as Namespace
use Rattle.sj_names.specs.declared.references.BaseRef.TheVariants as BaseRef
use Rattle.sj_names.specs.declared.references.TypeRef.TheVariants as TypeRef
use Rattle.sj_trees.specs.declared.classes.ClassDef.{ClassDef}
use Rattle.sj_trees.specs.declared.classes.ClassKind.TheVariants as ClassKind
use Rattle.sj_trees.specs.declared.operators.BinaryOp.TheVariants as BinaryOp
use Rattle.sj_trees.specs.declared.operators.UnaryOp.TheVariants as UnaryOp
use Rattle.sj_trees.specs.declared.types.IrType.TheVariants as IrType
use Rattle.sj_trees.specs.Term.{no_terms, more_terms, no_cases, more_cases, var_def, skip, block_of, labeled, assign, return_to, if_then, while_loop, do_while, try_catch, try_finally, throw, match_on, new_object, load_module, store_module, select, select_static, apply, apply_statically, apply_static, unary_op, binary_op, new_array, array_value, array_length, array_select, is_instance_of, as_instance_of, undefined_literal, null_literal, boolean_literal, char_literal, byte_literal, short_literal, int_literal, long_literal, string_literal, var_ref, this_ref, log_line}
use Rattle.agree_recorded_folders.specs.Words.{nowhere, no_units, m, array_of, field_of, parameter, method_of, class_with}

abbrev class_0 : ClassDef
class_0 = class_with (codes "A") ClassKind.Class (Some (codes "java.lang.Object")) [] [] (method_of Namespace.Constructor (m (codes "<init>") [] (Some TypeRef.Void)) [] IrType.NoType (Some (apply_statically nowhere (this_ref nowhere (IrType.Class (codes "A"))) (codes "java.lang.Object") Namespace.Constructor (m (codes "<init>") [] (Some TypeRef.Void)) no_terms IrType.NoType)) ∷ method_of Namespace.Public (m (codes "name") [] (Some (TypeRef.Class (codes "java.lang.String")))) [] (IrType.Class (codes "java.lang.String")) (Some (string_literal nowhere (codes "A"))) ∷ method_of Namespace.Public (m (codes "name") [] (Some (TypeRef.Class (codes "java.lang.Object")))) [] IrType.Any (Some (string_literal nowhere (codes "any"))) ∷ method_of Namespace.Public (m (codes "key") (TypeRef.Int ∷ []) (Some TypeRef.Char)) (parameter (codes "a0") false IrType.Int ∷ []) IrType.Char (Some (char_literal nowhere 107)) ∷ [])

abbrev class_1 : ClassDef
class_1 = class_with (codes "B") ClassKind.Class (Some (codes "A")) [] [] (method_of Namespace.Constructor (m (codes "<init>") [] (Some TypeRef.Void)) [] IrType.NoType (Some (apply_statically nowhere (this_ref nowhere (IrType.Class (codes "B"))) (codes "A") Namespace.Constructor (m (codes "<init>") [] (Some TypeRef.Void)) no_terms IrType.NoType)) ∷ [])

abbrev class_2 : ClassDef
class_2 = class_with (codes "java.lang.Character") ClassKind.HijackedClass (Some (codes "java.lang.Object")) [] [] (method_of Namespace.Public (m (codes "name") [] (Some TypeRef.Char)) [] IrType.Char (Some (as_instance_of nowhere (this_ref nowhere (IrType.Class (codes "java.lang.Character"))) IrType.Char)) ∷ [])

abbrev class_3 : ClassDef
class_3 = class_with (codes "java.lang.ClassCastException") ClassKind.Class (Some (codes "java.lang.Throwable")) [] [] (method_of Namespace.Constructor (m (codes "<init>") ((TypeRef.Class (codes "java.lang.String")) ∷ []) (Some TypeRef.Void)) (parameter (codes "m") false (IrType.Class (codes "java.lang.String")) ∷ []) IrType.NoType (Some (apply_statically nowhere (this_ref nowhere (IrType.Class (codes "java.lang.ClassCastException"))) (codes "java.lang.Throwable") Namespace.Constructor (m (codes "<init>") ((TypeRef.Class (codes "java.lang.String")) ∷ []) (Some TypeRef.Void)) (more_terms (var_ref nowhere (codes "m") (IrType.Class (codes "java.lang.String"))) no_terms) IrType.NoType)) ∷ [])

abbrev class_4 : ClassDef
class_4 = class_with (codes "java.lang.Integer") ClassKind.HijackedClass (Some (codes "java.lang.Object")) [] [] (method_of Namespace.Public (m (codes "key") (TypeRef.Int ∷ []) (Some TypeRef.Char)) (parameter (codes "a0") false IrType.Int ∷ []) IrType.Char (Some (char_literal nowhere 105)) ∷ [])

abbrev class_5 : ClassDef
class_5 = class_with (codes "java.lang.NoSuchMethodException") ClassKind.Class (Some (codes "java.lang.Throwable")) [] [] (method_of Namespace.Constructor (m (codes "<init>") ((TypeRef.Class (codes "java.lang.String")) ∷ []) (Some TypeRef.Void)) (parameter (codes "m") false (IrType.Class (codes "java.lang.String")) ∷ []) IrType.NoType (Some (apply_statically nowhere (this_ref nowhere (IrType.Class (codes "java.lang.NoSuchMethodException"))) (codes "java.lang.Throwable") Namespace.Constructor (m (codes "<init>") ((TypeRef.Class (codes "java.lang.String")) ∷ []) (Some TypeRef.Void)) (more_terms (var_ref nowhere (codes "m") (IrType.Class (codes "java.lang.String"))) no_terms) IrType.NoType)) ∷ [])

abbrev class_6 : ClassDef
class_6 = class_with (codes "java.lang.NullPointerException") ClassKind.Class (Some (codes "java.lang.Throwable")) [] [] (method_of Namespace.Constructor (m (codes "<init>") ((TypeRef.Class (codes "java.lang.String")) ∷ []) (Some TypeRef.Void)) (parameter (codes "m") false (IrType.Class (codes "java.lang.String")) ∷ []) IrType.NoType (Some (apply_statically nowhere (this_ref nowhere (IrType.Class (codes "java.lang.NullPointerException"))) (codes "java.lang.Throwable") Namespace.Constructor (m (codes "<init>") ((TypeRef.Class (codes "java.lang.String")) ∷ []) (Some TypeRef.Void)) (more_terms (var_ref nowhere (codes "m") (IrType.Class (codes "java.lang.String"))) no_terms) IrType.NoType)) ∷ [])

abbrev class_7 : ClassDef
class_7 = class_with (codes "java.lang.Object") ClassKind.Class None [] [] (method_of Namespace.Constructor (m (codes "<init>") [] (Some TypeRef.Void)) [] IrType.NoType (Some (skip nowhere)) ∷ method_of Namespace.PublicStatic (m (codes "main") [] (Some TypeRef.Void)) [] IrType.NoType (Some (block_of nowhere (more_terms (block_of nowhere (more_terms (var_def nowhere (codes "r0") IrType.Any false (apply nowhere (new_object nowhere (codes "A") (m (codes "<init>") [] (Some TypeRef.Void)) no_terms) (m (codes "name") [] None) no_terms IrType.Any)) (more_terms (log_line nowhere (binary_op nowhere BinaryOp.StringConcatenate (string_literal nowhere no_units) (is_instance_of nowhere (var_ref nowhere (codes "r0") IrType.Any) IrType.String))) no_terms))) (more_terms (block_of nowhere (more_terms (var_def nowhere (codes "r1") IrType.Any false (apply nowhere (string_literal nowhere (codes "s")) (m (codes "name") [] None) no_terms IrType.Any)) (more_terms (log_line nowhere (binary_op nowhere BinaryOp.StringConcatenate (string_literal nowhere no_units) (is_instance_of nowhere (var_ref nowhere (codes "r1") IrType.Any) IrType.String))) no_terms))) (more_terms (block_of nowhere (more_terms (var_def nowhere (codes "r2") IrType.Any false (apply nowhere (int_literal nowhere (pos 1)) (m (codes "name") [] None) no_terms IrType.Any)) (more_terms (log_line nowhere (binary_op nowhere BinaryOp.StringConcatenate (string_literal nowhere no_units) (is_instance_of nowhere (var_ref nowhere (codes "r2") IrType.Any) IrType.String))) no_terms))) (more_terms (block_of nowhere (more_terms (var_def nowhere (codes "r3") IrType.Any false (apply nowhere (as_instance_of nowhere (char_literal nowhere 99) IrType.Any) (m (codes "name") [] None) no_terms IrType.Any)) (more_terms (log_line nowhere (binary_op nowhere BinaryOp.StringConcatenate (string_literal nowhere no_units) (is_instance_of nowhere (var_ref nowhere (codes "r3") IrType.Any) IrType.String))) no_terms))) (more_terms (log_line nowhere (binary_op nowhere BinaryOp.StringConcatenate (string_literal nowhere no_units) (is_instance_of nowhere (apply nowhere (new_object nowhere (codes "A") (m (codes "<init>") [] (Some TypeRef.Void)) no_terms) (m (codes "key") (TypeRef.Int ∷ []) None) (more_terms (int_literal nowhere (pos 2)) no_terms) IrType.Any) IrType.Char))) no_terms))))))) ∷ [])

abbrev class_8 : ClassDef
class_8 = class_with (codes "java.lang.String") ClassKind.HijackedClass (Some (codes "java.lang.Object")) [] [] (method_of Namespace.Public (m (codes "name") [] (Some (TypeRef.Class (codes "java.lang.String")))) [] (IrType.Class (codes "java.lang.String")) (Some (string_literal nowhere (codes "S"))) ∷ [])

abbrev class_9 : ClassDef
class_9 = class_with (codes "java.lang.Throwable") ClassKind.Class (Some (codes "java.lang.Object")) [] (field_of false true (codes "message") (IrType.Class (codes "java.lang.String")) ∷ []) (method_of Namespace.Constructor (m (codes "<init>") ((TypeRef.Class (codes "java.lang.String")) ∷ []) (Some TypeRef.Void)) (parameter (codes "m") false (IrType.Class (codes "java.lang.String")) ∷ []) IrType.NoType (Some (block_of nowhere (more_terms (apply_statically nowhere (this_ref nowhere (IrType.Class (codes "java.lang.Throwable"))) (codes "java.lang.Object") Namespace.Constructor (m (codes "<init>") [] (Some TypeRef.Void)) no_terms IrType.NoType) (more_terms (assign nowhere (select nowhere (this_ref nowhere (IrType.Class (codes "java.lang.Throwable"))) (codes "java.lang.Throwable") (codes "message") (IrType.Class (codes "java.lang.String"))) (var_ref nowhere (codes "m") (IrType.Class (codes "java.lang.String")))) no_terms)))) ∷ method_of Namespace.Public (m (codes "getMessage") [] (Some (TypeRef.Class (codes "java.lang.String")))) [] (IrType.Class (codes "java.lang.String")) (Some (select nowhere (this_ref nowhere (IrType.Class (codes "java.lang.Throwable"))) (codes "java.lang.Throwable") (codes "message") (IrType.Class (codes "java.lang.String")))) ∷ [])

abbrev pub classes : List ClassDef
classes = class_0 ∷ class_1 ∷ class_2 ∷ class_3 ∷ class_4 ∷ class_5 ∷ class_6 ∷ class_7 ∷ class_8 ∷ class_9 ∷ []

abbrev pub entries : List EntryPoint
entries = record { «module» = (codes "main"); class = (codes "java.lang.Object"); method = (codes "main") } ∷ []
