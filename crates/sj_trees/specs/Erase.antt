-- Terms apart from positions.
use Rattle.sj_trees.specs.Term.{Term, Terms, Cases, no_terms, more_terms, no_cases, more_cases, var_def, skip, block_of, labeled, assign, return_to, if_then, while_loop, do_while, try_catch, try_finally, throw, match_on, new_object, load_module, store_module, select, select_static, apply, apply_statically, apply_static, unary_op, binary_op, new_array, array_value, array_length, array_select, is_instance_of, as_instance_of, undefined_literal, null_literal, boolean_literal, char_literal, byte_literal, short_literal, int_literal, long_literal, string_literal, var_ref, this_ref, log_line}
use Rattle.sj_trees.specs.declared.positions.Position.{Position}

-- the position that stands for none
abbrev pub nowhere : Position
nowhere = record { file = 0; line = 0; column = 0 }

abbrev mutual
  -- the term with every position zero: two terms are equal apart from positions where these are equal
  pub erase : Term → Term
  erase (var_def p x t b e1) = var_def nowhere x t b (erase e1)
  erase (skip p) = skip nowhere
  erase (block_of p es) = block_of nowhere (erase_all es)
  erase (labeled p l t e1) = labeled nowhere l t (erase e1)
  erase (assign p e1 e2) = assign nowhere (erase e1) (erase e2)
  erase (return_to p e1 l) = return_to nowhere (erase e1) l
  erase (if_then p e1 e2 e3 t) = if_then nowhere (erase e1) (erase e2) (erase e3) t
  erase (while_loop p e1 e2) = while_loop nowhere (erase e1) (erase e2)
  erase (do_while p e1 e2) = do_while nowhere (erase e1) (erase e2)
  erase (try_catch p e1 x e2 t) = try_catch nowhere (erase e1) x (erase e2) t
  erase (try_finally p e1 e2) = try_finally nowhere (erase e1) (erase e2)
  erase (throw p e1) = throw nowhere (erase e1)
  erase (match_on p e1 cs e2 t) = match_on nowhere (erase e1) (erase_cases cs) (erase e2) t
  erase (new_object p c m es) = new_object nowhere c m (erase_all es)
  erase (load_module p c) = load_module nowhere c
  erase (store_module p c e1) = store_module nowhere c (erase e1)
  erase (select p e1 c f t) = select nowhere (erase e1) c f t
  erase (select_static p c f t) = select_static nowhere c f t
  erase (apply p e1 m es t) = apply nowhere (erase e1) m (erase_all es) t
  erase (apply_statically p e1 c n m es t) = apply_statically nowhere (erase e1) c n m (erase_all es) t
  erase (apply_static p c n m es t) = apply_static nowhere c n m (erase_all es) t
  erase (unary_op p o e1) = unary_op nowhere o (erase e1)
  erase (binary_op p o e1 e2) = binary_op nowhere o (erase e1) (erase e2)
  erase (new_array p r e1) = new_array nowhere r (erase e1)
  erase (array_value p r es) = array_value nowhere r (erase_all es)
  erase (array_length p e1) = array_length nowhere (erase e1)
  erase (array_select p e1 e2 t) = array_select nowhere (erase e1) (erase e2) t
  erase (is_instance_of p e1 t) = is_instance_of nowhere (erase e1) t
  erase (as_instance_of p e1 t) = as_instance_of nowhere (erase e1) t
  erase (undefined_literal p) = undefined_literal nowhere
  erase (null_literal p) = null_literal nowhere
  erase (boolean_literal p b) = boolean_literal nowhere b
  erase (char_literal p v) = char_literal nowhere v
  erase (byte_literal p v) = byte_literal nowhere v
  erase (short_literal p v) = short_literal nowhere v
  erase (int_literal p v) = int_literal nowhere v
  erase (long_literal p v) = long_literal nowhere v
  erase (string_literal p u) = string_literal nowhere u
  erase (var_ref p x t) = var_ref nowhere x t
  erase (this_ref p t) = this_ref nowhere t
  erase (log_line p e1) = log_line nowhere (erase e1)

  -- each term with every position zero
  pub erase_all : Terms → Terms
  erase_all no_terms = no_terms
  erase_all (more_terms e es) = more_terms (erase e) (erase_all es)

  -- each case with every position zero
  pub erase_cases : Cases → Cases
  erase_cases no_cases = no_cases
  erase_cases (more_cases keys e cs) = more_cases keys (erase e) (erase_cases cs)
