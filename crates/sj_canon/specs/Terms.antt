-- Canonical bytes of trees: what a tree has of its own, and behind it its parts, with how many they are in front.
use Rattle.std.specs.Prelude.{ℕ, List, [], ◌∷◌, ◌++◌}
use Rattle.sj_trees.specs.Term.{Term, Terms, Cases, no_terms, more_terms, no_cases, more_cases, var_def, skip, block_of, labeled, assign, return_to, if_then, while_loop, do_while, try_catch, try_finally, throw, match_on, new_object, load_module, store_module, select, select_static, apply, apply_statically, apply_static, unary_op, binary_op, new_array, array_value, array_length, array_select, is_instance_of, as_instance_of, undefined_literal, null_literal, boolean_literal, char_literal, byte_literal, short_literal, int_literal, long_literal, string_literal, var_ref, this_ref, log_line}
use Rattle.tree_parts.specs.Own.{own_of}
use Rattle.tree_parts.specs.Parts.{TermParts, no_part, one_part, two_parts, three_parts, many_parts, one_and_many, part_and_cases}
use Rattle.sj_canon.specs.Numbers.{signed_bytes, list_bytes}
use Rattle.sj_canon.specs.Own.{own_bytes}

abbrev mutual
  pub term_bytes : Term → List ℕ
  term_bytes (var_def x0 x1 x2 x3 a) = own_bytes (own_of (var_def x0 x1 x2 x3 a)) ++ (1 ∷ term_bytes a)
  term_bytes (skip x0) = own_bytes (own_of (skip x0)) ++ (0 ∷ [])
  term_bytes (block_of x0 ts) = own_bytes (own_of (block_of x0 ts)) ++ (4 ∷ terms_bytes ts)
  term_bytes (labeled x0 x1 x2 a) = own_bytes (own_of (labeled x0 x1 x2 a)) ++ (1 ∷ term_bytes a)
  term_bytes (assign x0 a b) = own_bytes (own_of (assign x0 a b)) ++ (2 ∷ term_bytes a ++ term_bytes b)
  term_bytes (return_to x0 a x2) = own_bytes (own_of (return_to x0 a x2)) ++ (1 ∷ term_bytes a)
  term_bytes (if_then x0 a b c x4) = own_bytes (own_of (if_then x0 a b c x4)) ++ (3 ∷ term_bytes a ++ term_bytes b ++ term_bytes c)
  term_bytes (while_loop x0 a b) = own_bytes (own_of (while_loop x0 a b)) ++ (2 ∷ term_bytes a ++ term_bytes b)
  term_bytes (do_while x0 a b) = own_bytes (own_of (do_while x0 a b)) ++ (2 ∷ term_bytes a ++ term_bytes b)
  term_bytes (try_catch x0 a x2 b x4) = own_bytes (own_of (try_catch x0 a x2 b x4)) ++ (2 ∷ term_bytes a ++ term_bytes b)
  term_bytes (try_finally x0 a b) = own_bytes (own_of (try_finally x0 a b)) ++ (2 ∷ term_bytes a ++ term_bytes b)
  term_bytes (throw x0 a) = own_bytes (own_of (throw x0 a)) ++ (1 ∷ term_bytes a)
  term_bytes (match_on x0 a cs b x4) = own_bytes (own_of (match_on x0 a cs b x4)) ++ (6 ∷ term_bytes a ++ cases_bytes cs ++ term_bytes b)
  term_bytes (new_object x0 x1 x2 ts) = own_bytes (own_of (new_object x0 x1 x2 ts)) ++ (4 ∷ terms_bytes ts)
  term_bytes (load_module x0 x1) = own_bytes (own_of (load_module x0 x1)) ++ (0 ∷ [])
  term_bytes (store_module x0 x1 a) = own_bytes (own_of (store_module x0 x1 a)) ++ (1 ∷ term_bytes a)
  term_bytes (select x0 a x2 x3 x4) = own_bytes (own_of (select x0 a x2 x3 x4)) ++ (1 ∷ term_bytes a)
  term_bytes (select_static x0 x1 x2 x3) = own_bytes (own_of (select_static x0 x1 x2 x3)) ++ (0 ∷ [])
  term_bytes (apply x0 a x2 ts x4) = own_bytes (own_of (apply x0 a x2 ts x4)) ++ (5 ∷ term_bytes a ++ terms_bytes ts)
  term_bytes (apply_statically x0 a x2 x3 x4 ts x6) = own_bytes (own_of (apply_statically x0 a x2 x3 x4 ts x6)) ++ (5 ∷ term_bytes a ++ terms_bytes ts)
  term_bytes (apply_static x0 x1 x2 x3 ts x5) = own_bytes (own_of (apply_static x0 x1 x2 x3 ts x5)) ++ (4 ∷ terms_bytes ts)
  term_bytes (unary_op x0 x1 a) = own_bytes (own_of (unary_op x0 x1 a)) ++ (1 ∷ term_bytes a)
  term_bytes (binary_op x0 x1 a b) = own_bytes (own_of (binary_op x0 x1 a b)) ++ (2 ∷ term_bytes a ++ term_bytes b)
  term_bytes (new_array x0 x1 a) = own_bytes (own_of (new_array x0 x1 a)) ++ (1 ∷ term_bytes a)
  term_bytes (array_value x0 x1 ts) = own_bytes (own_of (array_value x0 x1 ts)) ++ (4 ∷ terms_bytes ts)
  term_bytes (array_length x0 a) = own_bytes (own_of (array_length x0 a)) ++ (1 ∷ term_bytes a)
  term_bytes (array_select x0 a b x3) = own_bytes (own_of (array_select x0 a b x3)) ++ (2 ∷ term_bytes a ++ term_bytes b)
  term_bytes (is_instance_of x0 a x2) = own_bytes (own_of (is_instance_of x0 a x2)) ++ (1 ∷ term_bytes a)
  term_bytes (as_instance_of x0 a x2) = own_bytes (own_of (as_instance_of x0 a x2)) ++ (1 ∷ term_bytes a)
  term_bytes (undefined_literal x0) = own_bytes (own_of (undefined_literal x0)) ++ (0 ∷ [])
  term_bytes (null_literal x0) = own_bytes (own_of (null_literal x0)) ++ (0 ∷ [])
  term_bytes (boolean_literal x0 x1) = own_bytes (own_of (boolean_literal x0 x1)) ++ (0 ∷ [])
  term_bytes (char_literal x0 x1) = own_bytes (own_of (char_literal x0 x1)) ++ (0 ∷ [])
  term_bytes (byte_literal x0 x1) = own_bytes (own_of (byte_literal x0 x1)) ++ (0 ∷ [])
  term_bytes (short_literal x0 x1) = own_bytes (own_of (short_literal x0 x1)) ++ (0 ∷ [])
  term_bytes (int_literal x0 x1) = own_bytes (own_of (int_literal x0 x1)) ++ (0 ∷ [])
  term_bytes (long_literal x0 x1) = own_bytes (own_of (long_literal x0 x1)) ++ (0 ∷ [])
  term_bytes (string_literal x0 x1) = own_bytes (own_of (string_literal x0 x1)) ++ (0 ∷ [])
  term_bytes (var_ref x0 x1 x2) = own_bytes (own_of (var_ref x0 x1 x2)) ++ (0 ∷ [])
  term_bytes (this_ref x0 x1) = own_bytes (own_of (this_ref x0 x1)) ++ (0 ∷ [])
  term_bytes (log_line x0 a) = own_bytes (own_of (log_line x0 a)) ++ (1 ∷ term_bytes a)

  pub terms_bytes : Terms → List ℕ
  terms_bytes no_terms = 0 ∷ []
  terms_bytes (more_terms t ts) = 1 ∷ term_bytes t ++ terms_bytes ts

  pub cases_bytes : Cases → List ℕ
  cases_bytes no_cases = 0 ∷ []
  cases_bytes (more_cases keys t cs) = 1 ∷ list_bytes signed_bytes keys ++ term_bytes t ++ cases_bytes cs

abbrev pub parts_bytes : TermParts → List ℕ
parts_bytes no_part = 0 ∷ []
parts_bytes (one_part a) = 1 ∷ term_bytes a
parts_bytes (two_parts a b) = 2 ∷ term_bytes a ++ term_bytes b
parts_bytes (three_parts a b c) = 3 ∷ term_bytes a ++ term_bytes b ++ term_bytes c
parts_bytes (many_parts ts) = 4 ∷ terms_bytes ts
parts_bytes (one_and_many a ts) = 5 ∷ term_bytes a ++ terms_bytes ts
parts_bytes (part_and_cases a cs b) = 6 ∷ term_bytes a ++ cases_bytes cs ++ term_bytes b
