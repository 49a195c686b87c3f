-- How many trees a term has, counted in 32 bits.
use Rattle.std.specs.Prelude.{ℕ, ◌+◌, ◌-◌, ◌^◌, min}
use Rattle.sj_trees.specs.Term.{Term, Terms, Cases, no_terms, more_terms, no_cases, more_cases, var_def, skip, block_of, labeled, assign, return_to, if_then, while_loop, do_while, try_catch, try_finally, throw, match_on, new_object, load_module, store_module, select, select_static, apply, apply_statically, apply_static, unary_op, binary_op, new_array, array_value, array_length, array_select, is_instance_of, as_instance_of, undefined_literal, null_literal, boolean_literal, char_literal, byte_literal, short_literal, int_literal, long_literal, string_literal, var_ref, this_ref, log_line}
pub use Rattle.tree_parts.specs.Sizes.{size, size_of_all, size_of_cases}

-- a number of 32 bits: this one, or the last where it is more
abbrev pub in_32_bits : ℕ → ℕ
in_32_bits n = min n (2 ^ 32 - 1)

-- one more in 32 bits
unfoldable pub next : ℕ → ℕ
next n = in_32_bits (n + 1)

abbrev mutual
  -- a count in 32 bits, after the trees of a term
  pub counted : Term → ℕ → ℕ
  counted (var_def p x t m e) n = counted e (next n)
  counted (skip p) n = next n
  counted (block_of p ts) n = counted_all ts (next n)
  counted (labeled p l t e) n = counted e (next n)
  counted (assign p e d) n = counted d (counted e (next n))
  counted (return_to p e l) n = counted e (next n)
  counted (if_then p e d b t) n = counted b (counted d (counted e (next n)))
  counted (while_loop p e d) n = counted d (counted e (next n))
  counted (do_while p e d) n = counted d (counted e (next n))
  counted (try_catch p e x d t) n = counted d (counted e (next n))
  counted (try_finally p e d) n = counted d (counted e (next n))
  counted (throw p e) n = counted e (next n)
  counted (match_on p e cs d t) n = counted d (counted_cases cs (counted e (next n)))
  counted (new_object p c k ts) n = counted_all ts (next n)
  counted (load_module p c) n = next n
  counted (store_module p c e) n = counted e (next n)
  counted (select p e c f t) n = counted e (next n)
  counted (select_static p c f t) n = next n
  counted (apply p e k ts t) n = counted_all ts (counted e (next n))
  counted (apply_statically p e c s k ts t) n = counted_all ts (counted e (next n))
  counted (apply_static p c s k ts t) n = counted_all ts (next n)
  counted (unary_op p o e) n = counted e (next n)
  counted (binary_op p o e d) n = counted d (counted e (next n))
  counted (new_array p r e) n = counted e (next n)
  counted (array_value p r ts) n = counted_all ts (next n)
  counted (array_length p e) n = counted e (next n)
  counted (array_select p e d t) n = counted d (counted e (next n))
  counted (is_instance_of p e t) n = counted e (next n)
  counted (as_instance_of p e t) n = counted e (next n)
  counted (undefined_literal p) n = next n
  counted (null_literal p) n = next n
  counted (boolean_literal p v) n = next n
  counted (char_literal p v) n = next n
  counted (byte_literal p v) n = next n
  counted (short_literal p v) n = next n
  counted (int_literal p v) n = next n
  counted (long_literal p v) n = next n
  counted (string_literal p u) n = next n
  counted (var_ref p x t) n = next n
  counted (this_ref p t) n = next n
  counted (log_line p e) n = counted e (next n)

  pub counted_all : Terms → ℕ → ℕ
  counted_all no_terms n = n
  counted_all (more_terms t ts) n = counted_all ts (counted t n)

  pub counted_cases : Cases → ℕ → ℕ
  counted_cases no_cases n = n
  counted_cases (more_cases keys t cs) n = counted_cases cs (counted t n)
