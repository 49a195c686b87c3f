-- The classes of a recorded folder, and its entries.
use Rattle.std.specs.Prelude.{List, [], ◌∷◌, true, false, pos, negsuc, codes, Some, None}
use Rattle.sj_names.specs.declared.entry_points.EntryPoint.{EntryPoint}
use Rattle.sj_names.specs.declared.method_names.Namespace.TheVariants as Namespace
use Rattle.sj_names.specs.declared.references.BaseRef.TheVariants as BaseRef
use Rattle.sj_names.specs.declared.references.TypeRef.TheVariants as TypeRef
use Rattle.sj_trees.specs.declared.classes.ClassDef.{ClassDef}
use Rattle.sj_trees.specs.declared.classes.ClassKind.TheVariants as ClassKind
use Rattle.sj_trees.specs.declared.operators.BinaryOp.TheVariants as BinaryOp
use Rattle.sj_trees.specs.declared.operators.UnaryOp.TheVariants as UnaryOp
use Rattle.sj_trees.specs.declared.types.IrType.TheVariants as IrType
use Rattle.sj_trees.specs.Term.{no_terms, more_terms, no_cases, more_cases, var_def, skip, block_of, labeled, assign, return_to, if_then, while_loop, do_while, try_catch, try_finally, throw, match_on, new_object, load_module, store_module, select, select_static, apply, apply_statically, apply_static, unary_op, binary_op, new_array, array_value, array_length, array_select, is_instance_of, as_instance_of, undefined_literal, null_literal, boolean_literal, char_literal, byte_literal, short_literal, int_literal, long_literal, string_literal, var_ref, this_ref, log_line}
use Rattle.agree_recorded_folders.specs.Words.{nowhere, no_units, m, array_of, field_of, parameter, method_of, class_with}

abbrev class_0 : ClassDef
class_0 = class_with (codes "A") ClassKind.Class (Some (codes "B")) [] [] (method_of Namespace.Constructor (m (codes "<init>") [] (Some TypeRef.Void)) [] IrType.NoType (Some (apply_statically nowhere (this_ref nowhere (IrType.Class (codes "A"))) (codes "B") Namespace.Constructor (m (codes "<init>") [] (Some TypeRef.Void)) no_terms IrType.NoType)) ∷ method_of Namespace.PublicStatic (m (codes "main") [] (Some TypeRef.Void)) [] IrType.NoType (Some (apply nowhere (new_object nowhere (codes "A") (m (codes "<init>") [] (Some TypeRef.Void)) no_terms) (m (codes "m") [] (Some TypeRef.Void)) no_terms IrType.NoType)) ∷ [])

abbrev class_1 : ClassDef
class_1 = class_with (codes "B") ClassKind.Class (Some (codes "java.lang.Object")) [] [] (method_of Namespace.Constructor (m (codes "<init>") [] (Some TypeRef.Void)) [] IrType.NoType (Some (apply_statically nowhere (this_ref nowhere (IrType.Class (codes "B"))) (codes "java.lang.Object") Namespace.Constructor (m (codes "<init>") [] (Some TypeRef.Void)) no_terms IrType.NoType)) ∷ method_of Namespace.Public (m (codes "m") [] (Some TypeRef.Void)) [] IrType.NoType (Some (log_line nowhere (string_literal nowhere (codes "B")))) ∷ [])

abbrev class_2 : ClassDef
class_2 = class_with (codes "C") ClassKind.Class (Some (codes "java.lang.Object")) [] [] (method_of Namespace.PublicStatic (m (codes "main") [] (Some TypeRef.Void)) [] IrType.NoType (Some (block_of nowhere (more_terms (apply nowhere (new_object nowhere (codes "B") (m (codes "<init>") [] (Some TypeRef.Void)) no_terms) (m (codes "m") [] (Some TypeRef.Void)) no_terms IrType.NoType) (more_terms (apply_static nowhere (codes "java.lang.Object") Namespace.PublicStatic (m (codes "hi") [] (Some TypeRef.Void)) no_terms IrType.NoType) no_terms)))) ∷ [])

abbrev class_3 : ClassDef
class_3 = class_with (codes "java.lang.Object") ClassKind.Class None [] [] (method_of Namespace.Constructor (m (codes "<init>") [] (Some TypeRef.Void)) [] IrType.NoType (Some (skip nowhere)) ∷ method_of Namespace.PublicStatic (m (codes "hi") [] (Some TypeRef.Void)) [] IrType.NoType (Some (log_line nowhere (string_literal nowhere (codes "hi")))) ∷ [])

abbrev pub classes : List ClassDef
classes = class_0 ∷ class_1 ∷ class_2 ∷ class_3 ∷ []

abbrev pub entries : List EntryPoint
entries = record { «module» = (codes "a"); class = (codes "A"); method = (codes "main") } ∷ record { «module» = (codes "a-b"); class = (codes "C"); method = (codes "main") } ∷ record { «module» = (codes "a0"); class = (codes "A"); method = (codes "main") } ∷ []
