-- The forms that have nothing to do with objects.
use Rattle.std.specs.Prelude.{Bool, true, false, ◌&&◌, Option, Some, None}
use Rattle.sj_trees.specs.Term.{Term, Terms, no_terms, more_terms, Cases, no_cases, more_cases, var_def, skip, block_of, labeled, assign, return_to, if_then, while_loop, do_while, match_on, apply_static, unary_op, binary_op, undefined_literal, null_literal, boolean_literal, char_literal, byte_literal, short_literal, int_literal, long_literal, string_literal, var_ref, log_line}

abbrev mutual
  -- no tree in the tree has to do with objects
  pub is_static : Term → Bool
  is_static (var_def p x t b e) = is_static e
  is_static (skip p) = true
  is_static (block_of p ts) = are_static ts
  is_static (labeled p l t e) = is_static e
  is_static (assign p e d) = is_static e && is_static d
  is_static (return_to p e l) = is_static e
  is_static (if_then p c a b t) = is_static c && (is_static a && is_static b)
  is_static (while_loop p c b) = is_static c && is_static b
  is_static (do_while p b c) = is_static b && is_static c
  is_static (match_on p e cs d t) = is_static e && (are_static_cases cs && is_static d)
  is_static (apply_static p c n m ts t) = are_static ts
  is_static (unary_op p o e) = is_static e
  is_static (binary_op p o e d) = is_static e && is_static d
  is_static (log_line p e) = is_static e
  is_static (undefined_literal p) = true
  is_static (null_literal p) = true
  is_static (boolean_literal p b) = true
  is_static (char_literal p u) = true
  is_static (byte_literal p z) = true
  is_static (short_literal p z) = true
  is_static (int_literal p z) = true
  is_static (long_literal p z) = true
  is_static (string_literal p us) = true
  is_static (var_ref p x t) = true
  is_static _ = false

  pub are_static : Terms → Bool
  are_static no_terms = true
  are_static (more_terms t ts) = is_static t && are_static ts

  pub are_static_cases : Cases → Bool
  are_static_cases no_cases = true
  are_static_cases (more_cases ks t cs) = is_static t && are_static_cases cs

-- there is a body, and it is of these forms
abbrev pub is_static_body : Option Term → Bool
is_static_body None = false
is_static_body (Some e) = is_static e
