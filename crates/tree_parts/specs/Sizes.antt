-- How many trees a term is: itself and those in it.
use Rattle.std.specs.Prelude.{ℕ, ◌+◌}
use Rattle.sj_trees.specs.Term.{Term, Terms, Cases, no_terms, more_terms, no_cases, more_cases, var_def, skip, block_of, labeled, assign, return_to, if_then, while_loop, do_while, try_catch, try_finally, throw, match_on, new_object, load_module, store_module, select, select_static, apply, apply_statically, apply_static, unary_op, binary_op, new_array, array_value, array_length, array_select, is_instance_of, as_instance_of, undefined_literal, null_literal, boolean_literal, char_literal, byte_literal, short_literal, int_literal, long_literal, string_literal, var_ref, this_ref, log_line}
use Rattle.tree_parts.specs.Parts.{TermParts, no_part, one_part, two_parts, three_parts, many_parts, one_and_many, part_and_cases}

abbrev mutual
  pub size : Term → ℕ
  size (var_def _ _ _ _ a) = 1 + size a
  size (skip _) = 1
  size (block_of _ ts) = 1 + size_of_all ts
  size (labeled _ _ _ a) = 1 + size a
  size (assign _ a b) = 1 + size a + size b
  size (return_to _ a _) = 1 + size a
  size (if_then _ a b c _) = 1 + size a + size b + size c
  size (while_loop _ a b) = 1 + size a + size b
  size (do_while _ a b) = 1 + size a + size b
  size (try_catch _ a _ b _) = 1 + size a + size b
  size (try_finally _ a b) = 1 + size a + size b
  size (throw _ a) = 1 + size a
  size (match_on _ a cs b _) = 1 + size a + size_of_cases cs + size b
  size (new_object _ _ _ ts) = 1 + size_of_all ts
  size (load_module _ _) = 1
  size (store_module _ _ a) = 1 + size a
  size (select _ a _ _ _) = 1 + size a
  size (select_static _ _ _ _) = 1
  size (apply _ a _ ts _) = 1 + size a + size_of_all ts
  size (apply_statically _ a _ _ _ ts _) = 1 + size a + size_of_all ts
  size (apply_static _ _ _ _ ts _) = 1 + size_of_all ts
  size (unary_op _ _ a) = 1 + size a
  size (binary_op _ _ a b) = 1 + size a + size b
  size (new_array _ _ a) = 1 + size a
  size (array_value _ _ ts) = 1 + size_of_all ts
  size (array_length _ a) = 1 + size a
  size (array_select _ a b _) = 1 + size a + size b
  size (is_instance_of _ a _) = 1 + size a
  size (as_instance_of _ a _) = 1 + size a
  size (undefined_literal _) = 1
  size (null_literal _) = 1
  size (boolean_literal _ _) = 1
  size (char_literal _ _) = 1
  size (byte_literal _ _) = 1
  size (short_literal _ _) = 1
  size (int_literal _ _) = 1
  size (long_literal _ _) = 1
  size (string_literal _ _) = 1
  size (var_ref _ _ _) = 1
  size (this_ref _ _) = 1
  size (log_line _ a) = 1 + size a

  pub size_of_all : Terms → ℕ
  size_of_all no_terms = 0
  size_of_all (more_terms t ts) = size t + size_of_all ts

  pub size_of_cases : Cases → ℕ
  size_of_cases no_cases = 0
  size_of_cases (more_cases keys t cs) = size t + size_of_cases cs

-- how many trees the parts are
abbrev pub size_of_parts : TermParts → ℕ
size_of_parts no_part = 0
size_of_parts (one_part a) = size a
size_of_parts (two_parts a b) = size a + size b
size_of_parts (three_parts a b c) = size a + size b + size c
size_of_parts (many_parts ts) = size_of_all ts
size_of_parts (one_and_many a ts) = size a + size_of_all ts
size_of_parts (part_and_cases a cs b) = size a + size_of_cases cs + size b
