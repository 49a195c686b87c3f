-- The labels that a tree jumps to are those by its shape.
use Rattle.std.proofs.Common.{◌≡◌, ℕ, List, refl}
use Rattle.sj_desugar_spec.specs.Finalizers.{left_labels}
use Rattle.sj_desugar_finalizers.specs.Shapes.{jump_of, left_by_shape}
use Rattle.sj_trees.specs.Term.{Term, var_def, skip, block_of, labeled, assign, return_to, if_then, while_loop, do_while, try_catch, try_finally, throw, match_on, new_object, load_module, store_module, select, select_static, apply, apply_statically, apply_static, unary_op, binary_op, new_array, array_value, array_length, array_select, is_instance_of, as_instance_of, undefined_literal, null_literal, boolean_literal, char_literal, byte_literal, short_literal, int_literal, long_literal, string_literal, var_ref, this_ref, log_line}
use Rattle.tree_parts.specs.Parts.{parts_of}

pub left_shape : (inner : List (List ℕ)) (t : Term) → left_labels inner t ≡ left_by_shape (jump_of t) inner (parts_of t)
left_shape inner (var_def _ _ _ _ a) = refl
left_shape inner (skip _) = refl
left_shape inner (block_of _ ts) = refl
left_shape inner (labeled _ _ _ a) = refl
left_shape inner (assign _ a b) = refl
left_shape inner (return_to _ a _) = refl
left_shape inner (if_then _ a b c _) = refl
left_shape inner (while_loop _ a b) = refl
left_shape inner (do_while _ a b) = refl
left_shape inner (try_catch _ a _ b _) = refl
left_shape inner (try_finally _ a b) = refl
left_shape inner (throw _ a) = refl
left_shape inner (match_on _ a cs b _) = refl
left_shape inner (new_object _ _ _ ts) = refl
left_shape inner (load_module _ _) = refl
left_shape inner (store_module _ _ a) = refl
left_shape inner (select _ a _ _ _) = refl
left_shape inner (select_static _ _ _ _) = refl
left_shape inner (apply _ a _ ts _) = refl
left_shape inner (apply_statically _ a _ _ _ ts _) = refl
left_shape inner (apply_static _ _ _ _ ts _) = refl
left_shape inner (unary_op _ _ a) = refl
left_shape inner (binary_op _ _ a b) = refl
left_shape inner (new_array _ _ a) = refl
left_shape inner (array_value _ _ ts) = refl
left_shape inner (array_length _ a) = refl
left_shape inner (array_select _ a b _) = refl
left_shape inner (is_instance_of _ a _) = refl
left_shape inner (as_instance_of _ a _) = refl
left_shape inner (undefined_literal _) = refl
left_shape inner (null_literal _) = refl
left_shape inner (boolean_literal _ _) = refl
left_shape inner (char_literal _ _) = refl
left_shape inner (byte_literal _ _) = refl
left_shape inner (short_literal _ _) = refl
left_shape inner (int_literal _ _) = refl
left_shape inner (long_literal _ _) = refl
left_shape inner (string_literal _ _) = refl
left_shape inner (var_ref _ _ _) = refl
left_shape inner (this_ref _ _) = refl
left_shape inner (log_line _ a) = refl
