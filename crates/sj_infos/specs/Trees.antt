-- The trees of a body: a tree before those in it, and those from left to right.
use Rattle.std.specs.Prelude.{List, [], ◌∷◌, ◌++◌}
use Rattle.sj_trees.specs.Term.{Term, Terms, Cases, no_terms, more_terms, no_cases, more_cases, var_def, skip, block_of, labeled, assign, return_to, if_then, while_loop, do_while, try_catch, try_finally, throw, match_on, new_object, load_module, store_module, select, select_static, apply, apply_statically, apply_static, unary_op, binary_op, new_array, array_value, array_length, array_select, is_instance_of, as_instance_of, undefined_literal, null_literal, boolean_literal, char_literal, byte_literal, short_literal, int_literal, long_literal, string_literal, var_ref, this_ref, log_line}

abbrev mutual
  -- the trees in a tree
  pub below : Term → List Term
  below (var_def _ _ _ _ a) = a ∷ below a
  below (skip _) = []
  below (block_of _ ts) = all_below ts
  below (labeled _ _ _ a) = a ∷ below a
  below (assign _ a b) = (a ∷ below a) ++ (b ∷ below b)
  below (return_to _ a _) = a ∷ below a
  below (if_then _ a b c _) = (a ∷ below a) ++ (b ∷ below b) ++ (c ∷ below c)
  below (while_loop _ a b) = (a ∷ below a) ++ (b ∷ below b)
  below (do_while _ a b) = (a ∷ below a) ++ (b ∷ below b)
  below (try_catch _ a _ b _) = (a ∷ below a) ++ (b ∷ below b)
  below (try_finally _ a b) = (a ∷ below a) ++ (b ∷ below b)
  below (throw _ a) = a ∷ below a
  below (match_on _ a cs b _) = (a ∷ below a) ++ cases_below cs ++ (b ∷ below b)
  below (new_object _ _ _ ts) = all_below ts
  below (load_module _ _) = []
  below (store_module _ _ a) = a ∷ below a
  below (select _ a _ _ _) = a ∷ below a
  below (select_static _ _ _ _) = []
  below (apply _ a _ ts _) = (a ∷ below a) ++ all_below ts
  below (apply_statically _ a _ _ _ ts _) = (a ∷ below a) ++ all_below ts
  below (apply_static _ _ _ _ ts _) = all_below ts
  below (unary_op _ _ a) = a ∷ below a
  below (binary_op _ _ a b) = (a ∷ below a) ++ (b ∷ below b)
  below (new_array _ _ a) = a ∷ below a
  below (array_value _ _ ts) = all_below ts
  below (array_length _ a) = a ∷ below a
  below (array_select _ a b _) = (a ∷ below a) ++ (b ∷ below b)
  below (is_instance_of _ a _) = a ∷ below a
  below (as_instance_of _ a _) = a ∷ below a
  below (undefined_literal _) = []
  below (null_literal _) = []
  below (boolean_literal _ _) = []
  below (char_literal _ _) = []
  below (byte_literal _ _) = []
  below (short_literal _ _) = []
  below (int_literal _ _) = []
  below (long_literal _ _) = []
  below (string_literal _ _) = []
  below (var_ref _ _ _) = []
  below (this_ref _ _) = []
  below (log_line _ a) = a ∷ below a

  pub all_below : Terms → List Term
  all_below no_terms = []
  all_below (more_terms t ts) = (t ∷ below t) ++ all_below ts

  pub cases_below : Cases → List Term
  cases_below no_cases = []
  cases_below (more_cases keys t cs) = (t ∷ below t) ++ cases_below cs

-- a tree and the trees in it
abbrev pub trees : Term → List Term
trees t = t ∷ below t
