-- The classes of a recorded folder, and its entries.
use Rattle.std.specs.Prelude.{List, [], ◌∷◌, true, false, pos, negsuc, codes, Some, None}
use Rattle.sj_names.specs.declared.entry_points.EntryPoint.{EntryPoint}
use Rattle.sj_names.specs.declared.method_names.Namespace.TheVariants as Namespace
use Rattle.sj_names.specs.declared.references.BaseRef.TheVariants as BaseRef
use Rattle.sj_names.specs.declared.references.TypeRef.TheVariants as TypeRef
use Rattle.sj_trees.specs.declared.classes.ClassDef.{ClassDef}
use Rattle.sj_trees.specs.declared.classes.ClassKind.TheVariants as ClassKind
use Rattle.sj_trees.specs.declared.operators.BinaryOp.TheVariants as BinaryOp
use Rattle.sj_trees.specs.declared.operators.UnaryOp.TheVariants as UnaryOp
use Rattle.sj_trees.specs.declared.types.IrType.TheVariants as IrType
use Rattle.sj_trees.specs.Term.{no_terms, more_terms, no_cases, more_cases, var_def, skip, block_of, labeled, assign, return_to, if_then, while_loop, do_while, try_catch, try_finally, throw, match_on, new_object, load_module, store_module, select, select_static, apply, apply_statically, apply_static, unary_op, binary_op, new_array, array_value, array_length, array_select, is_instance_of, as_instance_of, undefined_literal, null_literal, boolean_literal, char_literal, byte_literal, short_literal, int_literal, long_literal, string_literal, var_ref, this_ref, log_line}
use Rattle.agree_recorded_folders.specs.Words.{nowhere, no_units, m, array_of, field_of, parameter, method_of, class_with}

abbrev class_0 : ClassDef
class_0 = class_with (codes "java.lang.Object") ClassKind.Class None [] [] (method_of Namespace.PublicStatic (m (codes "main") [] (Some TypeRef.Void)) [] IrType.NoType (Some (block_of nowhere (more_terms (var_def nowhere (codes "i") IrType.Int true (int_literal nowhere (pos 0))) (more_terms (while_loop nowhere (block_of nowhere (more_terms (log_line nowhere (string_literal nowhere (codes "c"))) (more_terms (binary_op nowhere BinaryOp.IntLess (var_ref nowhere (codes "i") IrType.Int) (int_literal nowhere (pos 2))) no_terms))) (block_of nowhere (more_terms (assign nowhere (var_ref nowhere (codes "i") IrType.Int) (binary_op nowhere BinaryOp.IntAdd (var_ref nowhere (codes "i") IrType.Int) (int_literal nowhere (pos 1)))) (more_terms (skip nowhere) no_terms)))) (more_terms (do_while nowhere (log_line nowhere (string_literal nowhere (codes "once"))) (boolean_literal nowhere false)) (more_terms (match_on nowhere (var_ref nowhere (codes "i") IrType.Int) (more_cases ((pos 1) ∷ (negsuc 0) ∷ []) (log_line nowhere (string_literal nowhere (codes "one"))) (more_cases ((pos 2) ∷ []) (log_line nowhere (string_literal nowhere (codes "two"))) no_cases)) (log_line nowhere (string_literal nowhere (codes "other"))) IrType.NoType) (more_terms (log_line nowhere (binary_op nowhere BinaryOp.StringConcatenate (string_literal nowhere no_units) (binary_op nowhere BinaryOp.IntMultiply (apply_static nowhere (codes "java.lang.Object") Namespace.PublicStatic (m (codes "f") [] (Some TypeRef.Int)) no_terms IrType.Int) (block_of nowhere (more_terms (log_line nowhere (string_literal nowhere (codes "x"))) (more_terms (int_literal nowhere (pos 2)) no_terms)))))) (more_terms (if_then nowhere (boolean_literal nowhere true) (skip nowhere) (log_line nowhere (string_literal nowhere (codes "no"))) IrType.NoType) no_terms)))))))) ∷ method_of Namespace.PublicStatic (m (codes "f") [] (Some TypeRef.Int)) [] IrType.Int (Some (labeled nowhere (codes "r") IrType.Int (return_to nowhere (int_literal nowhere (pos 3)) (codes "r")))) ∷ [])

abbrev pub classes : List ClassDef
classes = class_0 ∷ []

abbrev pub entries : List EntryPoint
entries = record { «module» = (codes "main"); class = (codes "java.lang.Object"); method = (codes "main") } ∷ []
