-- A count after a tree is one after the trees in it, which are counted behind the tree itself.
use Rattle.std.proofs.Common.{◌≡◌, ℕ, refl}
use Rattle.sj_trees.specs.Term.{Term, var_def, skip, block_of, labeled, assign, return_to, if_then, while_loop, do_while, try_catch, try_finally, throw, match_on, new_object, load_module, store_module, select, select_static, apply, apply_statically, apply_static, unary_op, binary_op, new_array, array_value, array_length, array_select, is_instance_of, as_instance_of, undefined_literal, null_literal, boolean_literal, char_literal, byte_literal, short_literal, int_literal, long_literal, string_literal, var_ref, this_ref, log_line}
use Rattle.sj_ask.specs.Sizes.{next, counted}
use Rattle.sj_typing_spec.specs.Numbers.{counted_parts}

pub counted_is_parts : (t : Term) (n : ℕ) → counted_parts t (next n) ≡ counted t n
counted_is_parts (var_def p x t m e) n = refl
counted_is_parts (skip p) n = refl
counted_is_parts (block_of p ts) n = refl
counted_is_parts (labeled p l t e) n = refl
counted_is_parts (assign p e d) n = refl
counted_is_parts (return_to p e l) n = refl
counted_is_parts (if_then p e d b t) n = refl
counted_is_parts (while_loop p e d) n = refl
counted_is_parts (do_while p e d) n = refl
counted_is_parts (try_catch p e x d t) n = refl
counted_is_parts (try_finally p e d) n = refl
counted_is_parts (throw p e) n = refl
counted_is_parts (match_on p e cs d t) n = refl
counted_is_parts (new_object p c k ts) n = refl
counted_is_parts (load_module p c) n = refl
counted_is_parts (store_module p c e) n = refl
counted_is_parts (select p e c f t) n = refl
counted_is_parts (select_static p c f t) n = refl
counted_is_parts (apply p e k ts t) n = refl
counted_is_parts (apply_statically p e c s k ts t) n = refl
counted_is_parts (apply_static p c s k ts t) n = refl
counted_is_parts (unary_op p o e) n = refl
counted_is_parts (binary_op p o e d) n = refl
counted_is_parts (new_array p r e) n = refl
counted_is_parts (array_value p r ts) n = refl
counted_is_parts (array_length p e) n = refl
counted_is_parts (array_select p e d t) n = refl
counted_is_parts (is_instance_of p e t) n = refl
counted_is_parts (as_instance_of p e t) n = refl
counted_is_parts (undefined_literal p) n = refl
counted_is_parts (null_literal p) n = refl
counted_is_parts (boolean_literal p v) n = refl
counted_is_parts (char_literal p v) n = refl
counted_is_parts (byte_literal p v) n = refl
counted_is_parts (short_literal p v) n = refl
counted_is_parts (int_literal p v) n = refl
counted_is_parts (long_literal p v) n = refl
counted_is_parts (string_literal p u) n = refl
counted_is_parts (var_ref p x t) n = refl
counted_is_parts (this_ref p t) n = refl
counted_is_parts (log_line p e) n = refl
