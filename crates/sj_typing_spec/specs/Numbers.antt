-- Numbers of trees.
use Rattle.std.specs.Prelude.{ℕ}
use Rattle.sj_trees.specs.Term.{Term, var_def, skip, block_of, labeled, assign, return_to, if_then, while_loop, do_while, try_catch, try_finally, throw, match_on, new_object, load_module, store_module, select, select_static, apply, apply_statically, apply_static, unary_op, binary_op, new_array, array_value, array_length, array_select, is_instance_of, as_instance_of, undefined_literal, null_literal, boolean_literal, char_literal, byte_literal, short_literal, int_literal, long_literal, string_literal, var_ref, this_ref, log_line}
use Rattle.sj_ask.specs.Sizes.{counted, counted_all, counted_cases}

-- a count in 32 bits, after the trees in a term
abbrev pub counted_parts : Term → ℕ → ℕ
counted_parts (var_def p x t m e) n = counted e n
counted_parts (skip p) n = n
counted_parts (block_of p ts) n = counted_all ts n
counted_parts (labeled p l t e) n = counted e n
counted_parts (assign p e d) n = counted d (counted e n)
counted_parts (return_to p e l) n = counted e n
counted_parts (if_then p e d b t) n = counted b (counted d (counted e n))
counted_parts (while_loop p e d) n = counted d (counted e n)
counted_parts (do_while p e d) n = counted d (counted e n)
counted_parts (try_catch p e x d t) n = counted d (counted e n)
counted_parts (try_finally p e d) n = counted d (counted e n)
counted_parts (throw p e) n = counted e n
counted_parts (match_on p e cs d t) n = counted d (counted_cases cs (counted e n))
counted_parts (new_object p c k ts) n = counted_all ts n
counted_parts (load_module p c) n = n
counted_parts (store_module p c e) n = counted e n
counted_parts (select p e c f t) n = counted e n
counted_parts (select_static p c f t) n = n
counted_parts (apply p e k ts t) n = counted_all ts (counted e n)
counted_parts (apply_statically p e c s k ts t) n = counted_all ts (counted e n)
counted_parts (apply_static p c s k ts t) n = counted_all ts n
counted_parts (unary_op p o e) n = counted e n
counted_parts (binary_op p o e d) n = counted d (counted e n)
counted_parts (new_array p r e) n = counted e n
counted_parts (array_value p r ts) n = counted_all ts n
counted_parts (array_length p e) n = counted e n
counted_parts (array_select p e d t) n = counted d (counted e n)
counted_parts (is_instance_of p e t) n = counted e n
counted_parts (as_instance_of p e t) n = counted e n
counted_parts (undefined_literal p) n = n
counted_parts (null_literal p) n = n
counted_parts (boolean_literal p v) n = n
counted_parts (char_literal p v) n = n
counted_parts (byte_literal p v) n = n
counted_parts (short_literal p v) n = n
counted_parts (int_literal p v) n = n
counted_parts (long_literal p v) n = n
counted_parts (string_literal p u) n = n
counted_parts (var_ref p x t) n = n
counted_parts (this_ref p t) n = n
counted_parts (log_line p e) n = counted e n
