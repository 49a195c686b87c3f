-- The locals that are never null, in a list.
use Rattle.std.specs.Prelude.{ℕ, Bool, not, ◌&&◌, List, [], ◌∷◌, ◌++◌, if◌then◌else◌}
use Rattle.sj_desugar_spec.specs.Plain.{is_among}
use Rattle.sj_trees.specs.Term.{Term, Terms, no_terms, more_terms, Cases, no_cases, more_cases, apply, apply_static, apply_statically, array_length, array_select, array_value, as_instance_of, assign, binary_op, block_of, do_while, if_then, is_instance_of, labeled, log_line, match_on, new_array, new_object, return_to, select, store_module, throw, try_catch, try_finally, unary_op, var_def, while_loop}
use Rattle.sure_receivers.specs.Sure.{is_sure}

-- behind the definition of a local: with its name, where its right side is never null
abbrev pub with_local : List (List ℕ) → List ℕ → Bool → Term → List (List ℕ)
with_local xs x b t = if (not b && is_sure (is_among xs) t) then (xs ++ x ∷ []) else xs

abbrev mutual
  -- behind a tree, with those that it defines and that are never null
  pub sure_in : Term → List (List ℕ) → List (List ℕ)
  sure_in (var_def p x t b e) xs = with_local (sure_in e xs) x b e
  sure_in (block_of p ts) xs = sure_in_all ts xs
  sure_in (labeled p l t e) xs = sure_in e xs
  sure_in (assign p e d) xs = sure_in d (sure_in e xs)
  sure_in (return_to p e l) xs = sure_in e xs
  sure_in (if_then p c a b t) xs = sure_in b (sure_in a (sure_in c xs))
  sure_in (while_loop p c b) xs = sure_in b (sure_in c xs)
  sure_in (do_while p b c) xs = sure_in c (sure_in b xs)
  sure_in (try_catch p e x d t) xs = sure_in d (sure_in e xs)
  sure_in (try_finally p e d) xs = sure_in d (sure_in e xs)
  sure_in (throw p e) xs = sure_in e xs
  sure_in (match_on p e cs d t) xs = sure_in d (sure_in_cases cs (sure_in e xs))
  sure_in (new_object p c m ts) xs = sure_in_all ts xs
  sure_in (store_module p c e) xs = sure_in e xs
  sure_in (select p e c f t) xs = sure_in e xs
  sure_in (apply p e m ts t) xs = sure_in_all ts (sure_in e xs)
  sure_in (apply_statically p e c n m ts t) xs = sure_in_all ts (sure_in e xs)
  sure_in (apply_static p c n m ts t) xs = sure_in_all ts xs
  sure_in (unary_op p o e) xs = sure_in e xs
  sure_in (binary_op p o e d) xs = sure_in d (sure_in e xs)
  sure_in (new_array p r e) xs = sure_in e xs
  sure_in (array_value p r ts) xs = sure_in_all ts xs
  sure_in (array_length p e) xs = sure_in e xs
  sure_in (array_select p e i t) xs = sure_in i (sure_in e xs)
  sure_in (is_instance_of p e t) xs = sure_in e xs
  sure_in (as_instance_of p e t) xs = sure_in e xs
  sure_in (log_line p e) xs = sure_in e xs
  sure_in _ xs = xs

  pub sure_in_all : Terms → List (List ℕ) → List (List ℕ)
  sure_in_all no_terms xs = xs
  sure_in_all (more_terms t ts) xs = sure_in_all ts (sure_in t xs)

  pub sure_in_cases : Cases → List (List ℕ) → List (List ℕ)
  sure_in_cases no_cases xs = xs
  sure_in_cases (more_cases ks t cs) xs = sure_in_cases cs (sure_in t xs)
