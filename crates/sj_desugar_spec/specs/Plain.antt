-- Trees that may stand inside an expression of the core, and those whose value nothing around them can change.
use Rattle.std.specs.Prelude.{ℕ, Bool, true, false, ◌&&◌, not, List, [], ◌∷◌}
use Rattle.std.specs.Cmp.Lexicographic.{pointwise}
use Rattle.std.specs.List.{list_any}
use Rattle.std.specs.Prelude.{nat_eq}
use Rattle.sj_core.specs.Term.{Term, Terms, no_terms, more_terms, Cases, no_cases, more_cases, var_def, skip, block_of, labeled, assign, return_to, if_then, while_loop, do_while, try_catch, try_finally, throw, match_on, new_object, load_module, store_module, select, select_static, apply, apply_statically, apply_static, unary_op, binary_op, new_array, array_value, array_length, array_select, is_instance_of, as_instance_of, undefined_literal, null_literal, boolean_literal, char_literal, byte_literal, short_literal, int_literal, long_literal, string_literal, var_ref, this_ref, log_line}
use Rattle.sj_core.specs.ParamDef.{ParamDef}
use Rattle.sj_core.specs.IrType.{IrType}
use Rattle.sj_core.specs.IrTypeVariants.{NoType}

abbrev pub is_no_type : IrType → Bool
is_no_type NoType = true
is_no_type _ = false

abbrev mutual
  -- neither the tree nor one in it is a definition, a statement in a row, a jump, a loop, a try, a throw, a match, an assignment, a line of
  -- output, or an If without a value
  pub is_plain : Term → Bool
  is_plain (var_def p x t b e) = false
  is_plain (skip p) = false
  is_plain (block_of p es) = false
  is_plain (labeled p l t e) = false
  is_plain (assign p e d) = false
  is_plain (return_to p e l) = false
  is_plain (if_then p c e d t) = not (is_no_type t) && is_plain c && is_plain e && is_plain d
  is_plain (while_loop p c e) = false
  is_plain (do_while p e c) = false
  is_plain (try_catch p e x d t) = false
  is_plain (try_finally p e d) = false
  is_plain (throw p e) = false
  is_plain (match_on p e cs d t) = false
  is_plain (new_object p c m es) = are_plain es
  is_plain (load_module p c) = true
  is_plain (store_module p c e) = false
  is_plain (select p e c f t) = is_plain e
  is_plain (select_static p c f t) = true
  is_plain (apply p e m es t) = is_plain e && are_plain es
  is_plain (apply_statically p e c n m es t) = is_plain e && are_plain es
  is_plain (apply_static p c n m es t) = are_plain es
  is_plain (unary_op p o e) = is_plain e
  is_plain (binary_op p o e d) = is_plain e && is_plain d
  is_plain (new_array p r e) = is_plain e
  is_plain (array_value p r es) = are_plain es
  is_plain (array_length p e) = is_plain e
  is_plain (array_select p e i t) = is_plain e && is_plain i
  is_plain (is_instance_of p e t) = is_plain e
  is_plain (as_instance_of p e t) = is_plain e
  is_plain (log_line p e) = false
  is_plain _ = true

  pub are_plain : Terms → Bool
  are_plain no_terms = true
  are_plain (more_terms e es) = is_plain e && are_plain es

-- a name is among these
abbrev pub is_among : List (List ℕ) → List ℕ → Bool
is_among xs x = list_any (pointwise nat_eq x) xs

-- a literal, This, or a local that isn't mutable
abbrev pub is_fixed : (List ℕ → Bool) → Term → Bool
is_fixed is_mutable (undefined_literal p) = true
is_fixed is_mutable (null_literal p) = true
is_fixed is_mutable (boolean_literal p b) = true
is_fixed is_mutable (char_literal p v) = true
is_fixed is_mutable (byte_literal p v) = true
is_fixed is_mutable (short_literal p v) = true
is_fixed is_mutable (int_literal p v) = true
is_fixed is_mutable (long_literal p v) = true
is_fixed is_mutable (string_literal p u) = true
is_fixed is_mutable (this_ref p t) = true
is_fixed is_mutable (var_ref p x t) = not (is_mutable x)
is_fixed is_mutable _ = false

-- a name in front of others, where it is that of a mutable local
abbrev pub if_mutable : Bool → List ℕ → List (List ℕ) → List (List ℕ)
if_mutable true x xs = x ∷ xs
if_mutable false x xs = xs

abbrev mutual
  -- the mutable locals that a tree defines, in front of others
  pub mutable_in : Term → List (List ℕ) → List (List ℕ)
  mutable_in (var_def p x t b e) xs = if_mutable b x (mutable_in e xs)
  mutable_in (block_of p es) xs = mutable_in_all es xs
  mutable_in (labeled p l t e) xs = mutable_in e xs
  mutable_in (assign p e d) xs = mutable_in e (mutable_in d xs)
  mutable_in (return_to p e l) xs = mutable_in e xs
  mutable_in (if_then p c e d t) xs = mutable_in c (mutable_in e (mutable_in d xs))
  mutable_in (while_loop p c e) xs = mutable_in c (mutable_in e xs)
  mutable_in (do_while p e c) xs = mutable_in e (mutable_in c xs)
  mutable_in (try_catch p e x d t) xs = mutable_in e (mutable_in d xs)
  mutable_in (try_finally p e d) xs = mutable_in e (mutable_in d xs)
  mutable_in (throw p e) xs = mutable_in e xs
  mutable_in (match_on p e cs d t) xs = mutable_in e (mutable_in_cases cs (mutable_in d xs))
  mutable_in (new_object p c m es) xs = mutable_in_all es xs
  mutable_in (store_module p c e) xs = mutable_in e xs
  mutable_in (select p e c f t) xs = mutable_in e xs
  mutable_in (apply p e m es t) xs = mutable_in e (mutable_in_all es xs)
  mutable_in (apply_statically p e c n m es t) xs = mutable_in e (mutable_in_all es xs)
  mutable_in (apply_static p c n m es t) xs = mutable_in_all es xs
  mutable_in (unary_op p o e) xs = mutable_in e xs
  mutable_in (binary_op p o e d) xs = mutable_in e (mutable_in d xs)
  mutable_in (new_array p r e) xs = mutable_in e xs
  mutable_in (array_value p r es) xs = mutable_in_all es xs
  mutable_in (array_length p e) xs = mutable_in e xs
  mutable_in (array_select p e i t) xs = mutable_in e (mutable_in i xs)
  mutable_in (is_instance_of p e t) xs = mutable_in e xs
  mutable_in (as_instance_of p e t) xs = mutable_in e xs
  mutable_in (log_line p e) xs = mutable_in e xs
  mutable_in _ xs = xs

  pub mutable_in_all : Terms → List (List ℕ) → List (List ℕ)
  mutable_in_all no_terms xs = xs
  mutable_in_all (more_terms e es) xs = mutable_in e (mutable_in_all es xs)

  pub mutable_in_cases : Cases → List (List ℕ) → List (List ℕ)
  mutable_in_cases no_cases xs = xs
  mutable_in_cases (more_cases ks e cs) xs = mutable_in e (mutable_in_cases cs xs)

-- the mutable parameters, in front of others
abbrev pub mutable_params : List ParamDef → List (List ℕ) → List (List ℕ)
mutable_params [] xs = xs
mutable_params (d ∷ ds) xs = if_mutable d.«mutable» d.name (mutable_params ds xs)
